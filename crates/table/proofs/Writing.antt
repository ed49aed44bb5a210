-- Writes one after another.
use Rattle.std.proofs.Common.{sym, refl, ◌∙◌}
use Rattle.table.specs.declared.order_table.OrderTable.{OrderTable}
use Rattle.table.specs.Writing.{Written}
use Rattle.table.proofs.Noting.{moved_none, moved_both}

pub written_none : (t : OrderTable) → Written t t
written_none t = record { moved = moved_none t.places.now t.journal.now; long = refl; places = refl; journal = refl }

pub written_both : (a b c : OrderTable) → Written a b → Written b c → Written a c
written_both a b c f g =
    record {
      moved = moved_both a.places.now b.places.now c.places.now a.journal.now b.journal.now c.journal.now (sym f.long) f.moved g.moved;
      long = g.long ∙ f.long;
      places = g.places ∙ f.places;
      journal = g.journal ∙ f.journal;
    }
