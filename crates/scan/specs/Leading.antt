-- The slices on an order table that an active order may meet, and which of them leads.
use Rattle.std.specs.Prelude.{◌≡◌, ℕ, ◌<◌, ◌≤◌, Bool, true, false, cond, ◌&&◌, ◌⊎◌, is_some, Some, None, Option, nat_lt}
use Rattle.std.specs.declared.cmp.Ordering.{Ordering}
use Rattle.std.specs.Ordering.{is_lt, ordering_then, nat_cmp}
use Rattle.types.specs.declared.orders.Order.{Order}
use Rattle.prices.specs.Prices.{View}
use Rattle.priority.specs.declared.Taker.{Taker}
use Rattle.priority.specs.Priority.{Rule}
use Rattle.runs.specs.Slices.{Slice, volume_in, takes, taker, facts}
use Rattle.table.specs.declared.records.OrderRecord.{OrderRecord}
use Rattle.table.specs.Sequence.{Orders, place_at, rests_at, held, record_at, rank}
use Rattle.scan.specs.declared.Candidate.{Candidate}

-- The slice of the record at the place i, at its place on the time list.
abbrev pub slice_on : Orders → ℕ → Bool → Slice
slice_on os i hidden = record { place = rank os i; resting = (record_at os i).resting; hidden = hidden }

-- What is compared of a slice of the record at the place i.
abbrev pub candidate : View → OrderRecord → ℕ → Bool → Candidate
candidate view r i hidden = record { place = i; time = r.time; facts = facts view (record { place = i; resting = r.resting; hidden = hidden }) }

-- An order rests at the place, and a may take it.
abbrev pub within_reach : View → Order → Option OrderRecord → Bool
within_reach view a place = is_some place && takes view a (held place).resting.order

-- The order at the place has that slice, it is not empty, and a may take it.
abbrev pub may_meet : View → Order → Option OrderRecord → Bool → Bool
may_meet view a place hidden = within_reach view a place && nat_lt 0 (volume_in (held place).resting hidden)

-- The rule's answer, and where it is level that of the timestamps.
abbrev pub compared : Rule → Taker → Candidate → Candidate → Ordering
compared rule t x y = ordering_then (rule t x.facts y.facts) (nat_cmp x.time y.time)

-- The first candidate goes before the second.
abbrev pub goes_before : Rule → Taker → Candidate → Candidate → Bool
goes_before rule t x y = is_lt (compared rule t x y)

-- The better of the best so far and one more.
abbrev pub better_of : Rule → Taker → Option Candidate → Candidate → Option Candidate
better_of rule t None x = Some x
better_of rule t (Some b) x = Some (cond (goes_before rule t x b) x b)

-- The best, once one slice of a record was considered.
abbrev pub considered : Rule → View → Taker → OrderRecord → ℕ → Bool → Option Candidate → Option Candidate
considered rule view t r i hidden best = cond (nat_lt 0 (volume_in r.resting hidden)) (better_of rule t best (candidate view r i hidden)) best

-- The best, once both slices of a record were considered.
abbrev pub visited : Rule → View → Order → OrderRecord → ℕ → Option Candidate → Option Candidate
visited rule view a r i best =
    cond (takes view a r.resting.order) (considered rule view (taker a) r i true (considered rule view (taker a) r i false best)) best

-- The candidate leads those slices of the table that are asked about: it is one of them, one that a may meet, and goes before each other one that is.
pub record Leads (rule : Rule) (view : View) (a : Order) (os : Orders) (asked : ℕ → Bool → Type 0) (b : Candidate) : Type 0 where
  pub among : asked b.place b.facts.hidden
  pub own : b ≡ candidate view (record_at os b.place) b.place b.facts.hidden
  pub is_open : may_meet view a (place_at os b.place) b.facts.hidden ≡ true
  pub first : (k : ℕ) (hidden : Bool) → asked k hidden → may_meet view a (place_at os k) hidden ≡ true
      → (candidate view (record_at os k) k hidden ≡ b) ⊎ (goes_before rule (taker a) b (candidate view (record_at os k) k hidden) ≡ true)

-- The leading one of them, if a may meet any.
abbrev pub Leading : Rule → View → Order → Orders → (ℕ → Bool → Type 0) → Option Candidate → Type 0
Leading rule view a os asked None = (k : ℕ) (hidden : Bool) → asked k hidden → may_meet view a (place_at os k) hidden ≡ false
Leading rule view a os asked (Some b) = Leads rule view a os asked b

-- The slices at the places below n.
abbrev pub below : ℕ → ℕ → Bool → Type 0
below n k hidden = k < n

-- No order rests at a place from n on.
abbrev pub NoneFrom : ℕ → Orders → Type 0
NoneFrom n os = (k : ℕ) → n ≤ k → rests_at os k ≡ false

-- The candidate as a slice of the time list.
abbrev pub slice_of : Orders → Option Candidate → Option Slice
slice_of os None = None
slice_of os (Some b) = Some (slice_on os b.place b.facts.hidden)
