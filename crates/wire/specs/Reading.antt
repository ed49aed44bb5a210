-- A frame is a two-byte length of what follows, the version 1, a kind and the fields; a reader takes one after another.
use Rattle.std.specs.Prelude.{ℕ, ◌+◌, cond, List, ◌∷◌, length, drop, Some, None, Ok, Err, Option, Result, ◌==◌, nat_lt, slice_index}
use Rattle.faults.specs.declared.layers.FrameFault.{FrameFault}
use Rattle.faults.specs.declared.layers.FrameFault.TheVariants as fault
use Rattle.wire.specs.Layouts.{Width, one, two, be16, total, laid}

abbrev pub header : List Width → List Width
header ws = two ∷ one ∷ one ∷ ws

-- the length that a frame announces: of its version, its kind and its fields
abbrev pub announced : List Width → ℕ
announced ws = 2 + total ws

-- the frame of a kind's number and the numbers of its fields
abbrev pub framed : ℕ → List Width → List ℕ → List ℕ
framed code ws vs = laid (header ws) (announced ws ∷ 1 ∷ code ∷ vs)

-- How the bytes that are left begin: with none, with fewer than they announce, or with a whole frame of that length.
abbrev pub head_of : List ℕ → Result (Option ℕ) FrameFault
head_of b =
    cond (length b == 0) (Ok None)
    (cond (nat_lt (length b) 4) (Err fault.Short) (cond (nat_lt (length b) (be16 b 0 + 2)) (Err fault.Short) (Ok (Some (be16 b 0)))))

-- what a frame of a known kind must announce, and what it then says
pub record Form (A : Type 0) : Type 0 where
  pub length : ℕ
  pub value : A

-- the form of a frame of that kind, by what its kind announces and what its bytes say
abbrev pub form_of : {K A : Type 0} → (K → ℕ) → (List ℕ → K → A) → List ℕ → Option K → Option (Form A)
form_of length says b None = None
form_of length says b (Some k) = Some (record { length = length k; value = says b k })

-- the form of the frame that begins the bytes: its code stands at 3
abbrev pub form_at : {K A : Type 0} → (ℕ → Option K) → (K → ℕ) → (List ℕ → K → A) → List ℕ → Option (Form A)
form_at kind length says b = form_of length says b (kind (slice_index b 3))

-- The checks of a whole frame that announces n: a length under 2, the version, the kind, the kind's length.
abbrev pub version_check : List ℕ → ℕ → Result (Unit {0}) FrameFault
version_check b n = cond (nat_lt n 2) (Err fault.Length) (cond (slice_index b 2 == 1) (Ok tt) (Err fault.Version))

abbrev pub formed : {A : Type 0} → ℕ → Option (Form A) → Result A FrameFault
formed n None = Err fault.Kind
formed n (Some f) = cond (n == f.length) (Ok f.value) (Err fault.Length)

abbrev pub after : {A : Type 0} → Result (Unit {0}) FrameFault → Result A FrameFault → Result A FrameFault
after (Ok _) next = next
after (Err e) next = Err e

abbrev pub whole : {A : Type 0} → List ℕ → ℕ → Option (Form A) → Result A FrameFault
whole b n form = after (version_check b n) (formed n form)

-- what a reader answers, and the bytes that it leaves
pub record Read (A : Type 0) : Type 0 where
  pub answer : Result (Option A) FrameFault
  pub rest : List ℕ

abbrev pub found : {A : Type 0} → Result A FrameFault → Result (Option A) FrameFault
found (Ok x) = Ok (Some x)
found (Err e) = Err e

-- None at the end; a frame that is cut short stays where it is; any other is passed over by its length.
abbrev pub read_at : {A : Type 0} → Option (Form A) → List ℕ → Result (Option ℕ) FrameFault → Read A
read_at form b (Ok None) = record { answer = Ok None; rest = b }
read_at form b (Err e) = record { answer = Err e; rest = b }
read_at form b (Ok (Some n)) = record { answer = found (whole b n form); rest = drop (n + 2) b }

abbrev pub read : {A : Type 0} → Option (Form A) → List ℕ → Read A
read form b = read_at form b (head_of b)

-- The next frame of the bytes that are left, by what its code tells, what its kind announces and what its bytes say.
abbrev pub read_by : {K A : Type 0} → (ℕ → Option K) → (K → ℕ) → (List ℕ → K → A) → List ℕ → Read A
read_by kind length says b = read (form_at kind length says b) b
