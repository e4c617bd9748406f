-- The number that a word names, by how the word is parsed and by how its number is written.
-- Cited by `number_named`.
use Rattle.std.proofs.Common.{◌≡◌, ℕ, ◌<◌, ◌≤◌, ◌^◌, Bool, true, false, cond, ◌&&◌, leb, List, []}
use Rattle.std.proofs.Common.{◌∷◌, refl, ap, ap₂, sym, Option, Some, None, Result, Ok, arith}
use Rattle.std.specs.Fmt.{decimal}
use Rattle.std.specs.Bool.{then_some}
use Rattle.std.specs.Result.{result_ok}
use Rattle.std.specs.Str.Parse.{ParsesUnsigned}
use Rattle.std.proofs.lemmas.Fmt.{parse-decimal}
use Rattle.std.proofs.lemmas.Bool.{and_parts, eqb-true, leb-true}
use Rattle.script_model.specs.Words.{is_word, number_of}
use Rattle.script_model.proofs.Laws.Texts.{number_of-decimal}
use Rattle.command_line.specs.Options.{◌>>=◌, number_named}

same_word : (a b : List ℕ) → is_word a b ≡ true → a ≡ b
same_word [] [] h = refl
same_word [] (y ∷ ys) h = absurd cc
same_word (x ∷ xs) [] h = absurd cc
same_word (x ∷ xs) (y ∷ ys) h = let p = and_parts _ _ h in ap₂ (λ z zs. z ∷ zs) (eqb-true x y p.0) (same_word xs ys p.1)

-- the number is from low to high, and the word writes it without zeros in front
abbrev pub is_number : ℕ → ℕ → List ℕ → ℕ → Bool
is_number low high word n = is_word (decimal n) word && leb low n && leb n high

-- then the word is the number's decimal form, and so it is parsed as the number
record Written {E : Type 0} (word : List ℕ) (r : Result ℕ E) (n : ℕ) : Type 0 where
  pub parsed : r ≡ Ok n
  pub read : number_of word ≡ Some n

written : {E : Type 0} (low high : ℕ) (word : List ℕ) (r : Result ℕ E) (n : ℕ) → high < 2 ^ 64 → ParsesUnsigned 64 10 word r
    → is_number low high word n ≡ true → Written word r n
written low high word r n top parses right =
    let p = and_parts _ _ right in
    let q = and_parts _ _ p.0 in
    let plain : decimal n ≡ word = same_word (decimal n) word q.0 in
    let few : n ≤ high = leb-true n high p.1 in
    let small : n < 2 ^ 64 = omega (arith, few, top) in
    record {
      parsed = parse-decimal 64 n word r small small (sym plain) parses;
      read = rw (← plain) (number_of-decimal n small);
    }

-- what is not parsed names no number
pub not_parsed : {E : Type 0} (low high : ℕ) (word : List ℕ) (r : Result ℕ E) → high < 2 ^ 64 → ParsesUnsigned 64 10 word r → result_ok r ≡ None
    → None ≡ number_named low high word
unfolding number_named
not_parsed low high word r top parses fails = sym (read (number_of word))
  where
    kept : (n : ℕ) (b : Bool) → is_number low high word n ≡ b → cond b (Some n) None ≡ None
    kept n true right = let there = ap result_ok (written low high word r n top parses right).parsed in absurd cc
    kept n false right = refl

    read : (o : Option ℕ) → (o >>= λ n. cond (is_number low high word n) (Some n) None) ≡ None
    read None = refl
    read (Some n) = kept n (is_number low high word n) refl

-- what is parsed names the number that was parsed, if that is in the range
pub parsed : {E : Type 0} (low high : ℕ) (word : List ℕ) (r : Result ℕ E) (n : ℕ) (b : Bool) → high < 2 ^ 64 → ParsesUnsigned 64 10 word r
    → result_ok r ≡ Some n → b ≡ is_number low high word n → then_some b n ≡ number_named low high word
unfolding number_named
parsed low high word r n b top parses is test = either b (sym test)
  where
    kept : (m : ℕ) (b : Bool) → is_number low high word m ≡ b → is_number low high word n ≡ false → cond b (Some m) None ≡ None
    kept m true right none =
        let there = ap result_ok (written low high word r m top parses right).parsed in
        let same : m ≡ n = cc in
        absurd cc
    kept m false right none = refl

    read : (o : Option ℕ) → is_number low high word n ≡ false → (o >>= λ m. cond (is_number low high word m) (Some m) None) ≡ None
    read None none = refl
    read (Some m) none = kept m (is_number low high word m) refl none

    either : (b : Bool) → is_number low high word n ≡ b → then_some b n ≡ (number_of word >>= λ m. cond (is_number low high word m) (Some m) None)
    either true right = let w = written low high word r n top parses right in rw (w.read, right) refl
    either false none = sym (read (number_of word) none)
