-- What is on an event sheet.
use Rattle.std.specs.Prelude.{◌≡◌, List, [], ◌∷◌, ◌++◌, ℕ, zero, suc, ◌+◌, ◌-◌, length, drop}
use Rattle.types.specs.declared.reports.Report.{Report}
use Rattle.types.specs.Reports.{blank}
use Rattle.sheet.specs.declared.EventSheet.{EventSheet}

-- Places of such a number: the reports as far as there are places for them, then blanks.
unfoldable pub sheet_of : ℕ → List Report → List Report
sheet_of zero reports = []
sheet_of (suc n) [] = blank ∷ sheet_of n []
sheet_of (suc n) (r ∷ reports) = r ∷ sheet_of n reports

-- The sheet's places and its count are those of the reports.
pub record Holds (s : EventSheet) (reports : List Report) : Type 0 where
  pub counted : s.count ≡ length reports
  pub written : s.reports.now ≡ sheet_of (length s.reports.now) reports

-- The second sheet has the places of the first, in the same lent memory.
pub record SamePlaces (s t : EventSheet) : Type 0 where
  pub places : length t.reports.now ≡ length s.reports.now
  pub lent : t.reports.ghost_name ≡ s.reports.ghost_name

-- From one sheet to the next such reports came behind the others, whatever those are, and its places stayed.
pub record Adds (s t : EventSheet) (news : List Report) : Type 0 where
  pub holds : (reports : List Report) → Holds s reports → Holds t (reports ++ news)
  pub counted : t.count ≡ s.count + length news
  pub same : SamePlaces s t

-- Behind the reports counted the sheet is blank, as every call leaves it.
abbrev pub BlankBeyond : EventSheet → Type 0
BlankBeyond s = drop s.count s.reports.now ≡ sheet_of (length s.reports.now - s.count) []
