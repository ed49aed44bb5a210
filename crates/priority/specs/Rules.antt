-- The rules are lawful: price and shown lead, and any further ranking may follow.
use Rattle.std.specs.Prelude.{◌≡◌, true, false, refl}
use Rattle.std.specs.declared.cmp.Ordering.TheVariants.{Less}
use Rattle.std.specs.Ordering.{ordering_then}
use Rattle.std.proofs.Common.{ap, ◌∙◌}
use Rattle.std.proofs.lemmas.Cmp.{upto, tied_itself}
use Rattle.priority.specs.declared.SliceFacts.{SliceFacts}
use Rattle.priority.specs.declared.Taker.{Taker}
use Rattle.priority.specs.Priority.{Rule, Likes, Lawful, better, ◌then◌, best_price, shown_first, preferring, omega_prefers, lynx_prefers, time_only, omega_rule, lynx_rule}
use Rattle.priority.specs.Ranks.{Ranks, preferring_ranks, shown_first_ranks, best_price_ranks, then_ranks, better_first, same_level}

-- A ranking in which price comes first, and then shown.
pub record Leads (rule : Rule) : Type 0 where
  pub ranks : Ranks rule
  pub price : (a : Taker) (s t : SliceFacts) → better a.side s.price t.price ≡ true → rule a s t ≡ Less
  pub shown : (a : Taker) (s t : SliceFacts) → s.price ≡ t.price → s.hidden ≡ false → t.hidden ≡ true → rule a s t ≡ Less

pub leads_lawful : (rule : Rule) → Leads rule → Lawful rule
leads_lawful rule h = record {
  same = λ a s. tied_itself (h.ranks.total a) s;
  swap = λ a s t. (h.ranks.total a).antisymm t s;
  not_behind = λ a s t u. upto (h.ranks.total a) s t u;
  by_price = h.price;
  by_shown = h.shown;
}

pub time_only_leads : Leads time_only
time_only_leads = record {
  ranks = then_ranks best_price shown_first best_price_ranks shown_first_ranks;
  price = λ a s t h. ap (λ x. ordering_then x (shown_first a s t)) (better_first a.side s.price t.price h);
  shown = λ a s t e h k. ap (λ x. ordering_then x (shown_first a s t)) (same_level a.side s.price t.price e) ∙ rw (h, k) refl;
}

-- Whatever ranking follows time-only, the rule is lawful.
pub time_only_then : (next : Rule) → Ranks next → Leads (time_only then next)
time_only_then next k = record {
  ranks = then_ranks time_only next time_only_leads.ranks k;
  price = λ a s t h. ap (λ x. ordering_then x (next a s t)) (time_only_leads.price a s t h);
  shown = λ a s t e h l. ap (λ x. ordering_then x (next a s t)) (time_only_leads.shown a s t e h l);
}

-- A rule with a preference of its own.
pub preferring_lawful : (likes : Likes) → Lawful (time_only then preferring likes)
preferring_lawful likes = leads_lawful (time_only then preferring likes) (time_only_then (preferring likes) (preferring_ranks likes))

pub time_only_lawful : Lawful time_only
time_only_lawful = leads_lawful time_only time_only_leads

pub omega_lawful : Lawful omega_rule
omega_lawful = preferring_lawful omega_prefers

pub lynx_lawful : Lawful lynx_rule
lynx_lawful = preferring_lawful lynx_prefers
