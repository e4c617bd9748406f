-- The first fault is that of the first bad line, behind the draft that the lines before it give.
-- Cited by `first_bad_line_is_the_fault`, `Laws/Parts`, `Laws/Sound`, `lint_laws`, `nested_loop`, `task_reply`.
use Rattle.std.proofs.Common.{◌≡◌, ℕ, zero, suc, ◌+◌, List, [], ◌∷◌, take, refl, ap, ◌∙◌, Option, Some, None, Result, Ok, Err, arith}
use Rattle.std.specs.Prelude.{slice_get}
use Rattle.std.specs.Result.{result_err}
use Rattle.script_model.specs.Words.{lines_of}
use Rattle.script_model.specs.Reasons.{◌>>=◌}
use Rattle.script_model.specs.Draft.{Draft, empty_draft, script_of}
use Rattle.script_model.specs.Lines.{line_read}
use Rattle.script_model.specs.Grammar.{at_line, lines_read, script_read, first_fault}
use Rattle.script_model.specs.Laws.Fault.{IsFaultBehind}

-- a line behind lines
record IsBadBehind (d : Draft) (n : ℕ) (lines : List (List ℕ)) (k reason : ℕ) : Type 0 where
  draft : Draft
  line : List ℕ
  before : lines_read d n (take k lines) ≡ Ok draft
  here : slice_get lines k ≡ Some line
  fault : line_read draft line ≡ Err reason

pub ok_same : {A E : Type 0} (x y : A) → ◌≡◌ {A = Result A E} (Ok x) (Ok y) → x ≡ y
ok_same x y e = cc

err_same : {A E : Type 0} (x y : E) → ◌≡◌ {A = Result A E} (Err x) (Err y) → x ≡ y
err_same x y e = cc

-- the first line and the others of lines that give a draft
pub first_ok : (n : ℕ) (r : Result Draft ℕ) (go : Draft → Result Draft (ℕ × ℕ)) (d : Draft) → (at_line n r >>= go) ≡ Ok d
    → (next : Draft) × (r ≡ Ok next) × (go next ≡ Ok d)
first_ok n (Ok next) go d e = (next, refl, e)
first_ok n (Err reason) go d e = absurd cc

-- a bad line is the fault of the lines
found : (d : Draft) (n : ℕ) (lines : List (List ℕ)) (k reason : ℕ) → IsBadBehind d n lines k reason → lines_read d n lines ≡ Err (n + k, reason)
unfolding lines_read
found d n [] k reason bad = let none : ◌≡◌ {A = Option (List ℕ)} None (Some bad.line) = bad.here in absurd cc
found d n (line ∷ lines) zero reason bad =
    let same : d ≡ bad.draft = ok_same d bad.draft bad.before in
    let here : line ≡ bad.line = cc in
    let place : n + 0 ≡ n = omega arith in
    rw (same, here, bad.fault, place) refl
found d n (line ∷ lines) (suc k) reason bad =
    let next = first_ok n (line_read d line) (λ next. lines_read next (n + 1) (take k lines)) bad.draft bad.before in
    let rest = found next.0 (n + 1) lines k reason (record { draft = bad.draft; line = bad.line; before = next.2; here = bad.here; fault = bad.fault }) in
    let place : n + suc k ≡ n + 1 + k = omega arith in
    rw (next.1, place) rest

-- the fault of lines is a bad line
only : (d : Draft) (n : ℕ) (lines : List (List ℕ)) (m reason : ℕ) → lines_read d n lines ≡ Err (m, reason)
    → (k : ℕ) × (m ≡ n + k) × IsBadBehind d n lines k reason
unfolding lines_read
only d n [] m reason e = absurd cc
only d n (line ∷ lines) m reason e = first (line_read d line) refl e (λ next h. only next (n + 1) lines m reason h)
  where
    first : (r : Result Draft ℕ) → line_read d line ≡ r → (at_line n r >>= λ next. lines_read next (n + 1) lines) ≡ Err (m, reason)
        → ((next : Draft) → lines_read next (n + 1) lines ≡ Err (m, reason) → (k : ℕ) × (m ≡ n + 1 + k) × IsBadBehind next (n + 1) lines k reason)
        → (k : ℕ) × (m ≡ n + k) × IsBadBehind d n (line ∷ lines) k reason
    first (Ok next) is h go =
        let bad = go next h in
        let behind = bad.2 in
        let before : lines_read d n (take (suc bad.0) (line ∷ lines)) ≡ Ok behind.draft = rw is behind.before in
        let all : IsBadBehind d n (line ∷ lines) (suc bad.0) reason =
        record { draft = behind.draft; line = behind.line; before = before; here = behind.here; fault = behind.fault } in
        (suc bad.0, omega (arith, bad.1), all)
    first (Err r) is h go =
        let same : ◌≡◌ {A = ℕ × ℕ} (n, r) (m, reason) = err_same {A = Draft} (n, r) (m, reason) h in
        let place : n ≡ m = ap (λ (p : ℕ × ℕ). p.0) same in
        let why : r ≡ reason = ap (λ (p : ℕ × ℕ). p.1) same in
        (0, omega (arith, place), record { draft = d; line = line; before = refl; here = refl; fault = is ∙ ap Err why })

-- the fault of a script is that of its lines
fault_of_lines : (r : Result Draft (ℕ × ℕ)) (m reason : ℕ) → result_err (r >>= λ d. Ok (script_of d)) ≡ Some (m, reason) → r ≡ Err (m, reason)
fault_of_lines (Ok d) m reason e = absurd cc
fault_of_lines (Err f) m reason e = let same : f ≡ (m, reason) = cc in ap Err same

pub first_fault-found : (bytes : List ℕ) (k reason : ℕ) → IsFaultBehind bytes k reason → first_fault bytes ≡ Some (k + 1, reason)
unfolding script_read
first_fault-found bytes k reason bad =
    let fault = found empty_draft 1 (lines_of bytes) k reason
    (record { draft = bad.draft; line = bad.line; before = bad.before; here = bad.here; fault = bad.fault }) in
    let place : 1 + k ≡ k + 1 = omega arith in
    rw (fault, place) refl

pub first_fault-only : (bytes : List ℕ) (line reason : ℕ) → first_fault bytes ≡ Some (line, reason) → (k : ℕ) × (line ≡ k + 1) × IsFaultBehind bytes k reason
unfolding script_read
first_fault-only bytes line reason e =
    let bad = only empty_draft 1 (lines_of bytes) line reason (fault_of_lines (lines_read empty_draft 1 (lines_of bytes)) line reason e) in
    let behind = bad.2 in
    (bad.0, omega (arith, bad.1), record { draft = behind.draft; line = behind.line; before = behind.before; here = behind.here; fault = behind.fault })
