-- Lines that were spelt by hand, and what they are meant to be.
use Rattle.std.proofs.Common.{◌≡◌, refl, arith}
use Rattle.std.specs.Prelude.{codes}
use Rattle.std.specs.Fmt.{digits}
use Rattle.task_base.specs.declared.entry.Entry.{Entry}
use Rattle.task_base.specs.declared.entry.Kind.TheVariants as kinds
use Rattle.numeral_text.specs.Number.{number_of}
use Rattle.task_base.specs.Entries.{entry_by as by}
use Rattle.entry_lines.specs.Kinds.{kind_of, kind_with_three}
use Rattle.entry_lines.specs.Spelling.{IsMeant, without_zeros, entry_behind_place}
use Rattle.entry_lines.proofs.PlainWords.{no_meaning}

seven : without_zeros (codes "007") ≡ codes "7"
seven = refl

zeros : without_zeros (codes "000") ≡ codes "0"
zeros = refl

zero_of_a_word : without_zeros (codes "00x") ≡ codes "0x"
zero_of_a_word = refl

zeros_blanks_and_return : IsMeant (codes "04  1 take 00 0 0\r\n") (by 1 (kinds.Take 0 0 0))
unfolding digits
zeros_blanks_and_return = record { fits = record { seat = omega arith; kind = (omega arith, omega arith, omega arith) }; place = codes "4"; words = refl }

no_line_feed : IsMeant (codes "9 2 tick 40") (by 2 (kinds.Tick 40))
unfolding digits
no_line_feed = record { fits = record { seat = omega arith; kind = omega arith }; place = codes "9"; words = refl }

any_place : IsMeant (codes "\tplace 2 idle \n") (by 2 kinds.Idle)
unfolding digits
any_place = record { fits = record { seat = omega arith; kind = tt }; place = codes "place"; words = refl }

-- a letter is missing, a number is missing, and a number has more than 32 bits
no_kind : (e : Entry) → ¬ IsMeant (codes "4 1 tak 0 0 0") e
unfolding entry_behind_place kind_of kind_with_three number_of digits
no_kind e = no_meaning (codes "4 1 tak 0 0 0") e refl

no_place : (e : Entry) → ¬ IsMeant (codes "1 take 0 0 0\n") e
unfolding entry_behind_place number_of digits
no_place e = no_meaning (codes "1 take 0 0 0\n") e refl

no_seat : (e : Entry) → ¬ IsMeant (codes "4 4294967296 idle\n") e
unfolding entry_behind_place number_of digits
no_seat e = no_meaning (codes "4 4294967296 idle\n") e refl
