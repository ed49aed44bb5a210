-- How a call is served, by what speaks against it. Assumes nothing.
use Rattle.std.proofs.Common.{◌≡◌, ℕ, ◌<◌, ◌≤◌, Bool, true, false, cond, ltb, List, [], ◌∷◌, ◌++◌, length, Some, None, refl, ap, ◌∙◌}
use Rattle.std.proofs.lemmas.Bool.{cond-true, cond-false, lt-ltb, le-ltb}
use Rattle.types.specs.declared.calls.Call.{Call}
use Rattle.faults.specs.declared.layers.BookFault.TheVariants as book
use Rattle.faults.specs.declared.layers.ChannelFault.{ChannelFault}
use Rattle.faults.specs.declared.layers.ChannelFault.TheVariants as channel
use Rattle.priority.specs.Priority.{Rule}
use Rattle.rules.specs.declared.SetUp.{SetUp}
use Rattle.rules.specs.States.{State}
use Rattle.rules.specs.Calls.{made}
use Rattle.rules.specs.Refusals.{Ground, first_fault, grounds, room}
use Rattle.rules.specs.Served.{refused, taken, settled, served}

pub fault_first : (gs hs : List Ground) (f : ChannelFault) → first_fault gs ≡ Some f → first_fault (gs ++ hs) ≡ Some f
fault_first [] hs f e = cc
fault_first (g ∷ gs) hs f e = go g.applies e (fault_first gs hs f)
  where
    go : (b : Bool) → cond b (Some g.fault) (first_fault gs) ≡ Some f → (first_fault gs ≡ Some f → first_fault (gs ++ hs) ≡ Some f) → cond b (Some g.fault) (first_fault (gs ++ hs)) ≡ Some f
    go true e ih = e
    go false e ih = ih e

pub fault_next : (gs hs : List Ground) → first_fault gs ≡ None → first_fault (gs ++ hs) ≡ first_fault hs
fault_next [] hs e = refl
fault_next (g ∷ gs) hs e = go g.applies e (fault_next gs hs)
  where
    go : (b : Bool) → cond b (Some g.fault) (first_fault gs) ≡ None → (first_fault gs ≡ None → first_fault (gs ++ hs) ≡ first_fault hs) → cond b (Some g.fault) (first_fault (gs ++ hs)) ≡ first_fault hs
    go true e ih = cc
    go false e ih = ih e

module _ (s : SetUp) (rule : Rule) (st : State) (c : Call) where
  abbrev count : ℕ
  count = length (made rule c st).reports

  -- a ground before the call is tried
  pub served_refused : (f : ChannelFault) → first_fault (grounds s c st) ≡ Some f → served s rule st c ≡ refused f st
  unfolding served
  served_refused f e = ap (λ x. settled x st (made rule c st)) (fault_first (grounds s c st) (room s st count) f e)

  module _ (free : first_fault (grounds s c st) ≡ None) where
    -- it is tried, and has room or not
    pub served_tried : served s rule st c ≡ settled (first_fault (room s st count)) st (made rule c st)
    unfolding served
    served_tried = ap (λ x. settled x st (made rule c st)) (fault_next (grounds s c st) (room s st count) free)

    pub served_sheet_full : s.sheet < count → served s rule st c ≡ refused (channel.Book book.SheetFull) st
    served_sheet_full h = served_tried ∙ ap (λ x. settled x st (made rule c st)) (cond-true (ltb s.sheet count) _ _ (lt-ltb _ _ h))

    pub served_channel_full : count ≤ s.sheet → st.space < count → served s rule st c ≡ refused channel.Full st
    served_channel_full h k = served_tried ∙ ap (λ x. settled x st (made rule c st)) (cond-false (ltb s.sheet count) _ _ (le-ltb _ _ h) ∙ cond-true (ltb st.space count) _ _ (lt-ltb _ _ k))

    pub served_taken : count ≤ s.sheet → count ≤ st.space → served s rule st c ≡ taken (made rule c st)
    served_taken h k = served_tried ∙ ap (λ x. settled x st (made rule c st)) (cond-false (ltb s.sheet count) _ _ (le-ltb _ _ h) ∙ cond-false (ltb st.space count) _ _ (le-ltb _ _ k))
