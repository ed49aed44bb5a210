-- The time sequence of an order table.
use Rattle.std.specs.Prelude.{◌≡◌, ℕ, ◌+◌, ◌<◌, Bool, true, false, cond, List, [], ◌∷◌, map, length, is_some, Some, None, Option, nat_lt, unwrap_or, slice_index_or}
use Rattle.types.specs.declared.orders.RestingOrder.{RestingOrder}
use Rattle.types.specs.declared.orders.Side.TheVariants.{Buy}
use Rattle.types.specs.declared.orders.OrderKind.TheVariants.{Limit}
use Rattle.types.specs.declared.orders.TimeInForce.TheVariants.{Day}
use Rattle.types.specs.declared.orders.StpInstruction.TheVariants.{Off}
use Rattle.table.specs.declared.records.OrderRecord.{OrderRecord}

-- The places of a table: at each rests an order, or it is free.
abbrev pub Orders : Type 0
Orders = List (Option OrderRecord)

-- The record of a place where no order rests: all zeros.
abbrev pub blank_record : OrderRecord
blank_record = record {
  time = 0;
  drawn = 0;
  resting = record {
    order = record {
      number = record { number = 0 };
      broker = record { number = 0 };
      entry = record {
        trader = record { letters = [] };
        side = Buy;
        kind = Limit;
        term = Day;
        marks = record { post_only = false; anonymous = false; jitney = false };
        limit = record { quarters = 0 };
        volume = record { shares = 0 };
        display = record { shares = 0 };
        instruction = Off;
        key = record { number = 0 };
      };
    };
    shown = record { shares = 0 };
    reserve = record { shares = 0 };
  };
}

-- What is at the place i; nothing where the table does not have it.
abbrev pub place_at : Orders → ℕ → Option OrderRecord
place_at os i = slice_index_or os i None

-- Whether an order rests at the place i.
abbrev pub rests_at : Orders → ℕ → Bool
rests_at os i = is_some (place_at os i)

-- The record of the order that rests at a place.
abbrev pub held : Option OrderRecord → OrderRecord
held place = unwrap_or place blank_record

-- The record at the place i.
abbrev pub record_at : Orders → ℕ → OrderRecord
record_at os i = held (place_at os i)

-- The record of an order that comes to rest at the time t.
abbrev pub record_of : ℕ → RestingOrder → OrderRecord
record_of t o = record { time = t; drawn = 0; resting = o }

-- The record with the timestamp t.
abbrev pub stamped : ℕ → OrderRecord → OrderRecord
stamped t r = record { time = t; drawn = r.drawn; resting = r.resting }

-- The record put before the first one with a later timestamp.
abbrev pub in_turn : OrderRecord → List OrderRecord → List OrderRecord
in_turn r [] = r ∷ []
in_turn r (x ∷ xs) = cond (nat_lt r.time x.time) (r ∷ x ∷ xs) (x ∷ in_turn r xs)

-- The records of the table in rising sequence of their timestamps.
unfoldable pub in_sequence : Orders → List OrderRecord
in_sequence [] = []
in_sequence (None ∷ os) = in_sequence os
in_sequence (Some r ∷ os) = in_turn r (in_sequence os)

-- The meaning of a table: the time list, the resting orders in time sequence.
unfoldable pub resting_of : Orders → List RestingOrder
resting_of os = map (λ r. r.resting) (in_sequence os)

-- How many records have a timestamp below t.
abbrev pub earlier : Orders → ℕ → ℕ
earlier [] t = 0
earlier (None ∷ os) t = earlier os t
earlier (Some r ∷ os) t = cond (nat_lt r.time t) 1 0 + earlier os t

-- Where the record at the place i stands in the time sequence: as many stand before it.
abbrev pub rank : Orders → ℕ → ℕ
rank os i = earlier os (record_at os i).time

-- No two records have one timestamp.
abbrev pub Distinct : Orders → Type 0
Distinct os =
    (j k : ℕ) → j < length os → k < length os → rests_at os j ≡ true → rests_at os k ≡ true
    → (record_at os j).time ≡ (record_at os k).time → j ≡ k

-- Every record has a timestamp below the next one.
abbrev pub Older : ℕ → Orders → Type 0
Older next os = (k : ℕ) → k < length os → rests_at os k ≡ true → (record_at os k).time < next

-- What holds of a table and of the next timestamp.
pub record Sequenced (next : ℕ) (os : Orders) : Type 0 where
  pub distinct : Distinct os
  pub older : Older next os
