-- Traders are the same where their letters are.
use Rattle.std.specs.Prelude.{◌≡◌, ℕ, Bool, List, Decides}
use Rattle.std.proofs.Common.{ap}
use Rattle.types.specs.declared.orders.TraderId.{TraderId}

pub by_letters : (b : Bool) (x y : TraderId) → Decides b (x.letters ≡ y.letters) → Decides b (x ≡ y)
by_letters b x y d = (
  λ h. ap (λ (ls : List ℕ). record { letters = ls }) (d.0 h),
  λ e. d.1 (ap (λ (t : TraderId). t.letters) e),
)
