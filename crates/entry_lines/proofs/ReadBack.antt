-- The words of a kind are read as that kind.
-- Cited by `meant`, `PlainWords`, `event_text`, `run_log`.
use Rattle.std.proofs.Common.{◌≡◌, ◌<◌, ◌≤◌, ◌^◌, ℕ, true, false, List, ◌∷◌, None, Some, length, map, refl, arith}
use Rattle.std.specs.Fmt.{decimal}
use Rattle.std.specs.Prelude.{codes}
use Rattle.std.specs.Str.{all_ascii_digits, bytes_eq}
use Rattle.std.proofs.lemmas.Bool.{false≢true, false_from_ne_true}
use Rattle.std.proofs.lemmas.Fmt.{digits_decimal}
use Rattle.std.proofs.lemmas.Slice.Eq.{bytes_eq-Decides}
use Rattle.task_traits.specs.declared.traits.Priority.TheVariants.{BestEffort, UserVisible, UserBlocking}
use Rattle.task_base.specs.declared.entry.Entry.{Entry}
use Rattle.task_base.specs.declared.entry.Kind.{Kind}
use Rattle.task_base.specs.declared.entry.Kind.TheVariants as kinds
use Rattle.task_base.specs.declared.entry.JobReply.TheVariants as replies
use Rattle.task_base.specs.declared.policy.Policy.TheVariants.{All, Foreground, Nothing}
use Rattle.task_base.specs.declared.script.FenceAt.TheVariants.{Now, Start}
use Rattle.task_base.specs.declared.step.Scope.TheVariants.{May, Will}
use Rattle.log_model.specs.Fits.{Fits, KindFits}
use Rattle.log_model.specs.LogText.{entry_parts, shown, kind_words}
use Rattle.log_model.proofs.Laws.LogLines.{seat_parts}
use Rattle.numeral_text.specs.Number.{number_of}
use Rattle.numeral_text.proofs.Digits.{numerals}
use Rattle.numeral_text.proofs.Numbers.{number_of-decimal}
use Rattle.entry_lines.specs.Kinds.{kind_alone, kind_with_one, kind_with_two, kind_with_three, kind_with_four, kind_with_five, kind_of, joined_of}
use Rattle.entry_lines.specs.Spelling.{entry_behind_place}

-- numbers of 8, 32 and 64 bits
of_8 : (n : ℕ) → n < 2 ^ 8 → number_of 8 (decimal n) ≡ Some n
of_8 n fits = number_of-decimal 8 n (omega arith) fits

pub of_32 : (n : ℕ) → n < 2 ^ 32 → number_of 32 (decimal n) ≡ Some n
of_32 n fits = number_of-decimal 32 n (omega arith) fits

of_64 : (n : ℕ) → n < 2 ^ 64 → number_of 64 (decimal n) ≡ Some n
of_64 n fits = number_of-decimal 64 n fits fits

-- a kind has at most six words
few_kind_words : (kind : Kind) → length (kind_words kind) ≤ 6
few_kind_words (kinds.Joined job replies.Refused) = omega arith
few_kind_words (kinds.Joined job (replies.Finished sum)) = omega arith
few_kind_words (kinds.Joined job replies.Cancelled) = omega arith
few_kind_words (kinds.Joined job replies.Stopped) = omega arith
few_kind_words kind = omega arith

-- no number is written as `-`
no_dash : (n : ℕ) → n < 2 ^ 64 → bytes_eq (decimal n) (codes "-") ≡ false
no_dash n fits = false_from_ne_true _ (λ same.
    let dash : decimal n ≡ codes "-" = (bytes_eq-Decides (decimal n) (codes "-")).0 same in
    let digits : all_ascii_digits (codes "-") ≡ true = rw dash at (digits_decimal numerals n fits) in
    false≢true digits)

pub reads_back : (kind : Kind) → KindFits kind → kind_of (kind_words kind) ≡ Some kind
unfolding kind_of kind_alone kind_with_one kind_with_two kind_with_three kind_with_four kind_with_five joined_of
reads_back (kinds.Post task runner delay true) h = rw (of_32 task h.0, of_32 runner h.1, of_64 delay h.2) refl
reads_back (kinds.Post task runner delay false) h = rw (of_32 task h.0, of_32 runner h.1, of_64 delay h.2) refl
reads_back (kinds.Main task queue delay true) h = rw (of_32 task h.0, of_32 queue h.1, of_64 delay h.2) refl
reads_back (kinds.Main task queue delay false) h = rw (of_32 task h.0, of_32 queue h.1, of_64 delay h.2) refl
reads_back (kinds.Tick now) h = rw (of_64 now h) refl
reads_back (kinds.Take task runner found) h = rw (of_32 task h.0, of_32 runner h.1, of_64 found h.2) refl
reads_back (kinds.End task left) h = rw (of_32 task h.0, of_64 left h.1) refl
reads_back (kinds.Enter task May) h = rw (of_32 task h) refl
reads_back (kinds.Enter task Will) h = rw (of_32 task h) refl
reads_back (kinds.Leave task) h = rw (of_32 task h) refl
reads_back (kinds.Policy All) h = refl
reads_back (kinds.Policy Foreground) h = refl
reads_back (kinds.Policy Nothing) h = refl
reads_back (kinds.Reprio runner BestEffort) h = rw (of_32 runner h) refl
reads_back (kinds.Reprio runner UserVisible) h = rw (of_32 runner h) refl
reads_back (kinds.Reprio runner UserBlocking) h = rw (of_32 runner h) refl
reads_back (kinds.Fence queue Now) h = rw (of_32 queue h) refl
reads_back (kinds.Fence queue Start) h = rw (of_32 queue h) refl
reads_back (kinds.Unfence queue) h = rw (of_32 queue h) refl
reads_back (kinds.Vote queue voter true) h = rw (of_32 queue h.0, of_8 voter h.1) refl
reads_back (kinds.Vote queue voter false) h = rw (of_32 queue h.0, of_8 voter h.1) refl
reads_back (kinds.Rank queue class) h = rw (of_32 queue h.0, of_8 class h.1) refl
reads_back (kinds.Close queue) h = rw (of_32 queue h) refl
reads_back (kinds.MainTake task queue found) h = rw (of_32 task h.0, of_32 queue h.1, of_64 found h.2) refl
reads_back (kinds.MainEnd task left) h = rw (of_32 task h.0, of_64 left h.1) refl
reads_back kinds.MainNone h = refl
reads_back (kinds.JobPost job true) h = rw (of_32 job h) refl
reads_back (kinds.JobPost job false) h = rw (of_32 job h) refl
reads_back (kinds.JobTake job id item) h = rw (of_32 job h.0, of_32 id h.1, of_32 item h.2) refl
reads_back (kinds.JobStep job id item value None) h = rw (of_32 job h.0, of_32 id h.1, of_32 item h.2, of_64 value h.3) refl
reads_back (kinds.JobStep job id item value (Some next)) h = rw (
  of_32 job h.0,
  of_32 id h.1,
  of_32 item h.2,
  of_64 value h.3,
  no_dash next (omega (arith, h.4)),
  of_32 next h.4,
) refl
reads_back (kinds.JobCancel job) h = rw (of_32 job h) refl
reads_back (kinds.Cancelled job) h = rw (of_32 job h) refl
reads_back (kinds.Joined job replies.Refused) h = rw (of_32 job h.0) refl
reads_back (kinds.Joined job (replies.Finished sum)) h = rw (of_32 job h.0, of_64 sum h.1) refl
reads_back (kinds.Joined job replies.Cancelled) h = rw (of_32 job h.0) refl
reads_back (kinds.Joined job replies.Stopped) h = rw (of_32 job h.0) refl
reads_back kinds.Idle h = refl
reads_back kinds.Shutdown h = refl
reads_back kinds.Done h = refl

-- the words of an entry behind its place, whatever stands there, are read as that entry
pub seat_reads_back : (place : List ℕ) (e : Entry) → Fits e → entry_behind_place (place ∷ map shown (seat_parts e)) ≡ Some e
unfolding entry_behind_place
seat_reads_back place e h = rw (of_32 e.seat h.seat, reads_back e.kind h.kind) refl

-- an entry has at most eight words
pub few_words : (place : ℕ) (e : Entry) → length (map shown (entry_parts place e)) ≤ 8
few_words place e =
    let few = few_kind_words e.kind in
    omega arith
