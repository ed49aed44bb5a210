-- The worked cases, computed. Assumes nothing.
use Rattle.std.proofs.Common.{refl}
use Rattle.prices.specs.Prices.{may_take}
use Rattle.runs.specs.Slices.{slices, ahead}
use Rattle.runs.specs.Meetings.{trading, smaller_out, meeting}
use Rattle.runs.specs.Runs.{meet, next_slice, meetings, run, tidied}
use Rattle.checks.specs.Checks.{Ticks}
use Rattle.rules.specs.Accounts.{rests}
use Rattle.rules.specs.Entering.{ran, day_book, ioc_book, fok_book, enter}
use Rattle.rules.specs.Requotes.{run_at, run_again, re_enter, requote}
use Rattle.rules.specs.Calls.{cancel, halt, close, enrol}
use Rattle.rules.specs.Served.{served}
use Rattle.rules.specs.Days.{day_of}
use Rattle.rules.specs.Cases.{Cases}

ticks : Ticks
ticks = record {
  limit_199 = refl;
  peg_199 = refl;
  limit_200 = refl;
  peg_200 = refl;
  limit_202 = refl;
  peg_202 = refl;
  limit_204 = refl;
  peg_204 = refl;
}

pub cases : Cases
unfolding may_take slices ahead trading smaller_out meeting meet next_slice meetings run tidied rests ran day_book ioc_book fok_book enter run_at run_again re_enter requote cancel halt close enrol served day_of
cases = record {
  ticks = ticks;
  prices = record { apart = refl; locked = refl; crossed = refl; odd = refl; far = refl };
  own_broker_first = refl;
  refreshed_then = refl;
  cancel_and_decrement = refl;
  fill_or_kill = refl;
  uncrossed = refl;
}
