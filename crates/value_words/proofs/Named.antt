-- A value that a word names has this word.
-- Cited by `words.rt`.
use Rattle.std.proofs.Common.{◌≡◌, ℕ, List, Option, None, Some, refl}
use Rattle.std.specs.Prelude.{IfSome}
use Rattle.std.specs.Str.{bytes_eq}
use Rattle.std.proofs.lemmas.Slice.Eq.{bytes_eq-Decides}
use Rattle.list_laws.proofs.Finds.{find_passes}
use Rattle.value_words.specs.Words.{named}

pub named_word : {A : Type 0} (word_of : A → List ℕ) (values : List A) (word : List ℕ) → IfSome (named word_of values word) (λ value. word ≡ word_of value)
named_word {A} word_of values word = by_answer (named word_of values word) refl
  where
    by_answer : (answer : Option A) → named word_of values word ≡ answer → IfSome answer (λ value. word ≡ word_of value)
    by_answer None is = tt
    by_answer (Some value) is = (bytes_eq-Decides word (word_of value)).0 (find_passes (λ other. bytes_eq word (word_of other)) values value is)
