-- What a write at one place does to the time list.
use Rattle.std.proofs.Common.{◌≡◌, ℕ, suc, ◌<◌, true, false, List, [], ◌∷◌, ◌++◌, map, length, get_or, take, drop, set, Some, None, sym, ap, ◌∙◌}
use Rattle.std.proofs.lemmas.List.{length-map}
use Rattle.std.specs.List.{remove}
use Rattle.std.proofs.lemmas.List.{map-set, map-append, take-map, drop-map, get_or-map}
use Rattle.types.specs.declared.orders.RestingOrder.{RestingOrder}
use Rattle.table.specs.declared.records.OrderRecord.{OrderRecord}
use Rattle.table.specs.Sequence.{Orders, blank_record, rests_at, record_at, in_sequence, resting_of, rank, Distinct, Older}
use Rattle.table.proofs.Turns as turns
use Rattle.table.proofs.Ranks as ranks

abbrev order_of : OrderRecord → RestingOrder
order_of r = r.resting

map_removed : (l : List OrderRecord) (k : ℕ) → map order_of (remove l k) ≡ remove (map order_of l) k
map_removed l k = map-append order_of (take k l) (drop (suc k) l) ∙ (λ j. sym (take-map order_of k l) j ++ sym (drop-map order_of (suc k) l) j)

pub resting_length : (os : Orders) → length (resting_of os) ≡ length (in_sequence os)
unfolding resting_of
resting_length os = length-map (in_sequence os) order_of

-- A free place entered with the next timestamp: the order comes last.
pub entered : (os : Orders) (i : ℕ) (o : OrderRecord) → i < length os → rests_at os i ≡ false
    → Older o.time os → resting_of (set os i (Some o)) ≡ resting_of os ++ (o.resting ∷ [])
unfolding resting_of
entered os i o within free older = ap (map order_of) (turns.entered os i o within free older) ∙ map-append order_of (in_sequence os) (o ∷ [])

-- The order at the place i.
module _ (os : Orders) (i : ℕ) (within : i < length os) (was : rests_at os i ≡ true) (apart : Distinct os) where
  -- Changed in place: its order stays where it stands.
  pub changed : (o : OrderRecord) → o.time ≡ (record_at os i).time → resting_of (set os i (Some o)) ≡ set (resting_of os) (rank os i) o.resting
  unfolding resting_of
  changed o same = ap (map order_of) (turns.changed os i within was apart o same) ∙ map-set order_of (in_sequence os) (rank os i) o

  -- Set free: its order leaves the list.
  pub gone : resting_of (set os i None) ≡ remove (resting_of os) (rank os i)
  unfolding resting_of
  gone = ap (map order_of) (turns.gone os i within was apart) ∙ map_removed (in_sequence os) (rank os i)

  -- Given the next timestamp: its order goes to the end.
  pub renewed : (o : OrderRecord) → Older o.time os → resting_of (set os i (Some o)) ≡ remove (resting_of os) (rank os i) ++ (o.resting ∷ [])
  unfolding resting_of
  renewed o older =
      let s = in_sequence os in
      ap (map order_of) (turns.renewed os i within was apart o older)
      ∙ map-append order_of (remove s (rank os i)) (o ∷ [])
      ∙ ap (λ l. l ++ (o.resting ∷ [])) (map_removed s (rank os i))

  -- Its order stands at its rank.
  pub at_rank : (d : RestingOrder) → (rank os i < length (resting_of os)) × (get_or (resting_of os) (rank os i) d ≡ (record_at os i).resting)
  unfolding resting_of
  at_rank d =
      let s = in_sequence os in
      let p = ranks.at_rank os apart i within was in
      (rw (resting_length os) p.0, get_or-map order_of s (rank os i) blank_record d p.0 ∙ ap order_of p.1)

-- Every order of the list is that of a record, at whose rank it stands.
pub from_rank : (os : Orders) → Distinct os → (d : RestingOrder) (k : ℕ) → k < length (resting_of os)
    → (i : ℕ) × (i < length os) × (rests_at os i ≡ true) × ((record_at os i).resting ≡ get_or (resting_of os) k d) × (rank os i ≡ k)
unfolding resting_of
from_rank os apart d k lt =
    let s = in_sequence os in
    let here : k < length s = rw (sym (resting_length os)) lt in
    let p = ranks.from_rank os apart k here in
    (p.0, p.1, p.2, ap order_of p.3 ∙ sym (get_or-map order_of s k blank_record d here), p.4)
