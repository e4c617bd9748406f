use Rattle.std.proofs.Common.{◌≡◌, Bool, ℕ, List, [], ◌∷◌, ◌&&◌, refl, ap, ◌∙◌, rules, tests}
use Rattle.std.specs.Char.{is_ascii_digit}
use Rattle.std.specs.List.{list_all}
use Rattle.std.specs.Str.{all_ascii_digits}
use Rattle.std.proofs.lemmas.Iterator.{YieldsList-from_slice}
use Rattle.std.proofs.lemmas.Iterator.Search.{all_from_yields_List}
use Rattle.numeral_text.proofs.numeral.are_digits.Goals as goal

-- the test of each byte is the test of the word
list_all-is_ascii_digit : (word : List ℕ) → list_all is_ascii_digit word ≡ all_ascii_digits word
list_all-is_ascii_digit [] = refl
list_all-is_ascii_digit (byte ∷ word) = ap (λ (b : Bool). is_ascii_digit byte && b) (list_all-is_ascii_digit word)

pub returns : goal.returns
returns c =
    all_from_yields_List is_ascii_digit _ _ _ c.all.ensures.ran (YieldsList-from_slice c.args.word.now cc) (λ x b q k. search (rules, tests))
    ∙ list_all-is_ascii_digit c.args.word.now
