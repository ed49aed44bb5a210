use Rattle.std.proofs.Common.{◌≡◌, ℕ, ◌<◌, length, None, Some, refl, sym, subst}
use Rattle.std.specs.Prelude.{replicate}
use Rattle.cells.specs.Cells.{at}
use Rattle.cells.proofs.Counts.{taken_none}
use Rattle.cells.proofs.Free.{free_at}
use Rattle.cells.proofs.Walks.{free_sound, free_none}
use Rattle.cells.proofs.search.clear.Goals as goal

pub returns : goal.returns
returns g c =
    let n = length c.args.cells.now in
    let all : c.fill.new.self ≡ replicate n None = c.fill.ensures.after (elim [ None ↦ λ h. refl | Some x ↦ λ h. absurd h ]) in
    let free : (j : ℕ) → j < length c.fill.new.self → at c.fill.new.self j ≡ None = λ j l. subst (λ cs. at cs j ≡ None) (sym all) (free_at _ _ n j) in
    record {
      sound = free_sound g.K.Key.equal g.met.K.Key.decides g.K.Key.number c.fill.new.self free;
      none = free_none g.K.Key.equal g.met.K.Key.decides g.K.Key.number c.fill.new.self free;
      taken = taken_none c.fill.new.self free;
    }
