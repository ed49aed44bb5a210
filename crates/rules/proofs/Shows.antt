-- A day's calls, one after the other. Assumes nothing.
use Rattle.std.proofs.Common.{◌≡◌, ℕ, ◌+◌, ◌<◌, ◌≤◌, List, [], ◌∷◌, ◌++◌, reverse, length, get_or, take, sym, refl, ap, ◌∙◌, subst, append_assoc, append-nil}
use Rattle.std.proofs.lemmas.List.{take_all, take_more, reverse-append, reverse-reverse}
use Rattle.types.specs.declared.calls.Call.{Call}
use Rattle.types.specs.declared.reports.Report.{Report}
use Rattle.priority.specs.Priority.{Rule, Lawful}
use Rattle.rules.specs.declared.SetUp.{SetUp}
use Rattle.rules.specs.States.{State, opened}
use Rattle.rules.specs.Served.{served}
use Rattle.rules.specs.Days.{Day, opening, answer, day_of, Shows}
use Rattle.rules.specs.Laws.{GoesOn}
use Rattle.rules.proofs.Day.{day_law}

-- the calls so far, and one more
pub day_snoc : (s : SetUp) (rule : Rule) (d : Day) (cs : List Call) (c : Call) → day_of s rule d (cs ++ (c ∷ [])) ≡ answer s rule (day_of s rule d cs) c
unfolding day_of
day_snoc s rule d [] c = refl
day_snoc s rule d (x ∷ cs) c = day_snoc s rule (answer s rule d x) cs c

-- at the opening the day with no calls shows the state, and the channel's list as it is
pub shows_opening : (s : SetUp) (rule : Rule) (list : List Report) (space : ℕ) → Shows list (day_of s rule (opening space) []) (opened space) list
unfolding day_of
shows_opening s rule list space = record { state_is = refl; list_is = sym (append-nil list) }

pub shows_next : (s : SetUp) (rule : Rule) (first : List Report) (d : Day) (cs : List Call) (c : Call) (st st' : State) (list list' : List Report)
    → Shows first (day_of s rule d cs) st list
    → st' ≡ (served s rule st c).state
    → list' ≡ list ++ (served s rule st c).reports
    → Shows first (day_of s rule d (cs ++ (c ∷ []))) st' list'
shows_next s rule first d cs c st st' list list' sh a b =
    let e : Day = day_of s rule d cs in
    let o = served s rule e.state c in
    let same : served s rule st c ≡ o = ap (λ z. served s rule z c) sh.state_is in
    subst (λ (z : Day). Shows first z st' list') (sym (day_snoc s rule d cs c))
    (record {
      state_is = a ∙ ap (λ z. z.state) same;
      list_is = b ∙ ap (λ z. list ++ z.reports) same ∙ ap (λ z. z ++ o.reports) sh.list_is ∙ append_assoc first (reverse e.log) o.reports
          ∙ ap (λ z. first ++ z) (sym (reverse-append (reverse o.reports) e.log ∙ ap (λ z. reverse e.log ++ z) (reverse-reverse o.reports)));
    })

-- a call that is served exactly carries the law of the day on
pub goes_on : (s : SetUp) (rule : Rule) → Lawful rule → (c : Call) (st st' : State) (list list' : List Report)
    → st' ≡ (served s rule st c).state
    → list' ≡ list ++ (served s rule st c).reports
    → GoesOn s rule c st list st' list'
goes_on s rule law c st st' list list' a b first space calls sh =
    (shows_next s rule first (opening space) calls c st st' list list' sh a b, day_law s rule law space (calls ++ (c ∷ [])))

-- one more call of a list, in a loop over its places, and the end of the loop
pub shows_more : (s : SetUp) (rule : Rule) (first : List Report) (d : Day) (cs : List Call) (i : ℕ) (c : Call) (st st' : State) (list list' : List Report) → i < length cs
    → Shows first (day_of s rule d (take i cs)) st list
    → st' ≡ (served s rule st (get_or cs i c)).state
    → list' ≡ list ++ (served s rule st (get_or cs i c)).reports
    → Shows first (day_of s rule d (take (i + 1) cs)) st' list'
shows_more s rule first d cs i c st st' list list' h sh a b =
    subst (λ (z : List Call). Shows first (day_of s rule d z) st' list') (sym (take_more cs i c h)) (shows_next s rule first d (take i cs) (get_or cs i c) st st' list list' sh a b)

pub shows_all : (s : SetUp) (rule : Rule) (first : List Report) (d : Day) (cs : List Call) (i : ℕ) (st : State) (list : List Report) → length cs ≤ i
    → Shows first (day_of s rule d (take i cs)) st list → Shows first (day_of s rule d cs) st list
shows_all s rule first d cs i st list h sh = subst (λ (z : List Call). Shows first (day_of s rule d z) st list) (take_all i cs h) sh
