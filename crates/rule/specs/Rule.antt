-- The rule of plans, written from document 01. A plan is a list of marks, one byte per slot: 0 uncovered, 1 first slot
-- of a window, 2 a later over slot of it, 3 a bridge ("A plan as marks"); a bridge, in document 01's term, is an under
-- slot in a window. Loads and the threshold k are integers: every k is taken ("The rule, by source").
use Rattle.std.specs.Prelude.{ℕ, zero, suc, ◌-◌, ◌≤◌, Bool, true, false, cond, not, ◌&&◌, ◌||◌, List, [], ◌∷◌, ◌≡◌, leb, eqb, ℤ, length}
use Rattle.std.specs.Int.Signed.{lt_z}
use Rattle.rule.specs.declared.Shape.{Shape}

-- "From load ranges to windows": a slot is over when its load is greater than k, and under otherwise
unfoldable pub over : (k load : ℤ) → Bool
over k load = lt_z k load

-- the byte m is from a to b, both included
abbrev pub between : (a b m : ℕ) → Bool
between a b m = leb a m && leb m b

-- "A plan as marks", which is also the source of all that follows up to `legal`: marks 1 and 2 go with over loads, 0
-- and 3 with under loads; no byte above 3 goes with any load
unfoldable pub goes_with : (over : Bool) (m : ℕ) → Bool
goes_with true m = eqb m 1 || eqb m 2
goes_with false m = eqb m 0 || eqb m 3

-- each mark goes with its slot, and there are as many marks as slots. A slot may be of any type, given a test of the
-- marks that go with it: a load (`legal`, below), or a class (specs/Ranges.antt)
unfoldable pub agrees : {A : Type 0} → (A → ℕ → Bool) → List A → List ℕ → Bool
agrees goes [] [] = true
agrees goes [] (m ∷ ms) = false
agrees goes (x ∷ xs) [] = false
agrees goes (x ∷ xs) (m ∷ ms) = goes x m && agrees goes xs ms

-- mark 2 may follow 1, 2 or 3; mark 3 may follow 1, 2 or 3, never 0, and must not be followed by 0 or
-- by 1; bytes above 3 are never legal
unfoldable pub follows : (previous m : ℕ) → Bool
follows p m = (between 0 1 m && between 0 2 p) || (between 2 3 m && between 1 3 p)

-- each mark may follow the one before it (p stands before the first), and mark 3 must not be followed by the end
unfoldable pub ordered : (p : ℕ) → List ℕ → Bool
ordered p [] = not (eqb p 3)
ordered p (m ∷ ms) = follows p m && ordered m ms

-- the marks 2 and 3 with which a list begins: after a mark 1, they are the rest of its window
unfoldable pub rest : List ℕ → List ℕ
rest [] = []
rest (m ∷ ms) = cond (between 2 3 m) (m ∷ rest ms) []

-- what comes after these marks: after a mark 1, all that comes after its window
unfoldable pub beyond : List ℕ → List ℕ
beyond [] = []
beyond (m ∷ ms) = cond (between 2 3 m) (beyond ms) (m ∷ ms)

-- the first s marks, as far as there are so many, are 0
unfoldable pub clear : (s : ℕ) → List ℕ → Bool
clear zero ms = true
clear (suc s) [] = true
clear (suc s) (m ∷ ms) = eqb m 0 && clear s ms

-- how many of the marks pass a test
unfoldable pub count_if : (ℕ → Bool) → List ℕ → ℕ
count_if p [] = 0
count_if p (m ∷ ms) = cond (p m) (suc (count_if p ms)) (count_if p ms)

-- how many bridges there are among marks
abbrev pub bridges : List ℕ → ℕ
bridges marks = count_if (λ m. eqb m 3) marks

-- The window whose mark 1 stands right before the marks ms keeps its shape: it has at most len slots and holds at most
-- h bridges ("The rule, by source"), and between it and the next lie at least settle uncovered slots (document 02,
-- T-06). Where no window follows, none are owed.
unfoldable pub keeps : Shape → (ms : List ℕ) → Bool
keeps shape ms =
    leb (suc (length (rest ms))) shape.len
    && leb (bridges (rest ms)) shape.h
    && clear shape.settle (beyond ms)

-- Each window that marks draw passes a test: a window is a mark 1 with the marks 2 and 3 that directly follow it, and
-- the test is given all that follows the mark 1.
unfoldable pub each_window : (List ℕ → Bool) → List ℕ → Bool
each_window p [] = true
each_window p (m ∷ ms) = cond (eqb m 1) (p ms) true && each_window p ms

-- marks are legal when all this holds and each window so drawn keeps the shape. Slot 0 has mark 0 or 1:
-- these are the marks that may follow a mark 0
unfoldable pub legal_by : {A : Type 0} → (A → ℕ → Bool) → Shape → List A → List ℕ → Bool
legal_by goes shape slots marks = agrees goes slots marks && ordered 0 marks && each_window (keeps shape) marks

-- the marks that go with a load
abbrev pub carries : (k load : ℤ) (m : ℕ) → Bool
carries k load m = goes_with (over k load) m

-- legal for given loads
abbrev pub legal : (k : ℤ) → Shape → List ℤ → List ℕ → Bool
legal k shape loads marks = legal_by (carries k) shape loads marks

-- document 01's shape, in which windows may touch
abbrev pub shaped : (len h : ℕ) → Shape
shaped len h = record { len = len; h = h; settle = 0 }

-- one shape is looser than another: its window length and its bridge allowance are no smaller ("Words of demand 3"),
-- and its settle count is no larger (document 02, T-06)
pub record LooserShape (l t : Shape) : Type 0 where
  pub len : t.len ≤ l.len
  pub h : t.h ≤ l.h
  pub settle : l.settle ≤ t.settle

-- a shape in which a len of 0 counts as 1, for functions that do not check it
abbrev pub nonzero : Shape → Shape
nonzero shape = record { len = suc (shape.len - 1); h = shape.h; settle = shape.settle }

-- the window count of marks, and their covered count, bridges included ("The rule, by source")
unfoldable pub windows : List ℕ → ℕ
windows marks = count_if (λ m. eqb m 1) marks

unfoldable pub covered : List ℕ → ℕ
covered marks = count_if (λ m. not (eqb m 0)) marks

-- v is the least value of a count over the lists of marks that P holds of
pub record LeastOver (P : List ℕ → Type 0) (count : List ℕ → ℕ) (v : ℕ) : Type 0 where
  pub met : (ms : List ℕ) × P ms × (count ms ≡ v)
  pub least : (ms : List ℕ) → P ms → v ≤ count ms

-- P holds of the marks, and of none with fewer windows
pub record Fewest (P : List ℕ → Type 0) (ms : List ℕ) : Type 0 where
  pub holds : P ms
  pub fewest : (ks : List ℕ) → P ks → windows ms ≤ windows ks

-- v is the thrift, in document 02's term (T-02): the least covered count over such marks
abbrev pub ThriftOver : (P : List ℕ → Type 0) (v : ℕ) → Type 0
ThriftOver P v = LeastOver (Fewest P) covered v
