-- What the plain words of a line tell.
-- Cited by `entry_behind_place`, `meant`, `Worked`.
use Rattle.std.proofs.Common.{◌≡◌, ◌<◌, ◌≤◌, ◌-◌, ℕ, Bor, List, [], ◌∷◌, length, get_or, take, drop, map, Option, Some, None, IfSome, refl, sym, ap, ◌∙◌, arith}
use Rattle.std.proofs.lemmas.List.{take_all}
use Rattle.line_text.specs.Words.{texts}
use Rattle.task_base.specs.declared.entry.Entry.{Entry}
use Rattle.log_model.specs.Fits.{Fits}
use Rattle.log_model.specs.LogText.{shown}
use Rattle.log_model.proofs.Laws.LogLines.{seat_parts}
use Rattle.numeral_text.specs.Number.{number_of}
use Rattle.std.specs.Option.{option_and_then}
use Rattle.entry_lines.specs.Kinds.{kind_of}
use Rattle.entry_lines.specs.Spelling.{IsMeant, plain_words, entry_behind_place}
use Rattle.entry_lines.proofs.ReadBack.{seat_reads_back}

-- two words or more are a place, a seat and the rest
pub behind_place : (words : List (Bor (List ℕ))) (d : Bor (List ℕ)) (seat : List ℕ) (rest : List (List ℕ)) → 2 ≤ length words
    → (get_or words 1 d).now ≡ seat → rest ≡ texts (take (length words - 2) (drop 2 words)) → (place : List ℕ) × (texts words ≡ place ∷ seat ∷ rest)
behind_place [] d seat rest long p q = absurd (omega arith)
behind_place (place ∷ []) d seat rest long p q = absurd (omega arith)
behind_place (place ∷ second ∷ words) d seat rest long p q =
    let all : take (length (place ∷ second ∷ words) - 2) words ≡ words = take_all _ words (omega arith) in
    let others : texts words ≡ rest = sym (q ∙ ap texts all) in
    (place.now, rw (p, others) refl)

-- an answer whose parts stand behind the place is what the line is meant to be
pub answers_meant : (line : List ℕ) (words : List (List ℕ)) (o : Option Entry) → words ≡ plain_words line
    → IfSome o (λ e. (place : List ℕ) × (words ≡ place ∷ map shown (seat_parts e))) → IfSome o Fits → IfSome o (IsMeant line)
answers_meant line words None same parts fits = tt
answers_meant line words (Some e) same parts fits = record { fits = fits; place = parts.0; words = sym same ∙ parts.1 }

-- the entry that a line is meant to be is read from its plain words
pub meant_is_read : (line : List ℕ) (e : Entry) → IsMeant line e → entry_behind_place (plain_words line) ≡ Some e
meant_is_read line e h = ap entry_behind_place h.words ∙ seat_reads_back h.place e h.fits

-- what is made of a value is none where none is made of any
none_made : {A B : Type 0} (o : Option A) (f : A → Option B) → ((x : A) → f x ≡ None) → option_and_then f o ≡ None
none_made None f none = refl
none_made (Some x) f none = none x

-- more than eight words are read as no entry
pub many_words : (words : List (List ℕ)) → 8 < length words → entry_behind_place words ≡ None
unfolding entry_behind_place kind_of
many_words [] many = absurd (omega arith)
many_words (a ∷ []) many = absurd (omega arith)
many_words (a ∷ b ∷ []) many = absurd (omega arith)
many_words (a ∷ b ∷ c ∷ []) many = absurd (omega arith)
many_words (a ∷ b ∷ c ∷ d ∷ []) many = absurd (omega arith)
many_words (a ∷ b ∷ c ∷ d ∷ e ∷ []) many = absurd (omega arith)
many_words (a ∷ b ∷ c ∷ d ∷ e ∷ f ∷ []) many = absurd (omega arith)
many_words (a ∷ b ∷ c ∷ d ∷ e ∷ f ∷ g ∷ []) many = absurd (omega arith)
many_words (a ∷ b ∷ c ∷ d ∷ e ∷ f ∷ g ∷ h ∷ []) many = absurd (omega arith)
many_words (a ∷ b ∷ c ∷ d ∷ e ∷ f ∷ g ∷ h ∷ i ∷ words) many = none_made (number_of 32 b) _ (λ seat. refl)

-- so it is none where none is read
pub no_meaning : (line : List ℕ) (e : Entry) → entry_behind_place (plain_words line) ≡ None → ¬ IsMeant line e
no_meaning line e none h = let read = meant_is_read line e h in absurd cc
