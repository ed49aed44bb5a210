use Rattle.std.proofs.Common.{◌≡◌, None, MatchOption, IsSomeAnd, subst, rules}
use Rattle.table.proofs.Walks.{Least, first_found}
use Rattle.table.proofs.first_from.Goals as goal

pub returns : goal.returns
returns c =
    let os = c.args.places.now in
    let first = c.loop-i.first in
    let end : c.loop-i.i ≡ c.args.ends.high = search rules in
    let place : MatchOption first (c.map.result ≡ None) (λ p. IsSomeAnd c.map.result (λ i. i ≡ p.0)) = search rules in
    first_found os c.args.ends c.args.time c.requires first c.map.result place (subst (λ n. Least os c.args.time n first) end c.loop-i.invariant)
