-- What a seat runs or holds, one entry further, and whether some seat passes a test.
-- Cited by `holding`, `running`, `runs_sequence`.
use Rattle.std.proofs.Common.{◌≡◌, ℕ, ◌+◌, ◌<◌, Bool, false, List, [], ◌∷◌, length, Option, get_or, take, refl, sym, ap, ◌∙◌, arith}
use Rattle.std.proofs.lemmas.List.{take_more}
use Rattle.std.proofs.lemmas.List.Folds.{list_any-append}
use Rattle.std.specs.List.{list_any, range_with_len}
use Rattle.std.specs.Prelude.{◌==◌, if◌then◌else◌}
use Rattle.list_laws.proofs.Ranges.{range_split}
use Rattle.task_base.specs.declared.entry.Entry.{Entry}
use Rattle.task_model.proofs.Growth.{holding_push, running_push}
use Rattle.task_model.specs.Seats.{Holding, Running, holding, holding_after, running, running_after}

pub running_more : (past : List Entry) (seat i : ℕ) (d : Entry) (old new : Option Running) → i < length past → old ≡ running (take i past) seat
    → new ≡ (if (get_or past i d).seat == seat then running_after old (get_or past i d).kind else old) → new ≡ running (take (i + 1) past) seat
running_more past seat i d old new below is goes = rw (take_more past i d below)
    (goes ∙ ap (λ o. if (get_or past i d).seat == seat then running_after o (get_or past i d).kind else o) is
    ∙ sym (running_push (take i past) (get_or past i d) seat))

pub holding_more : (past : List Entry) (seat i : ℕ) (d : Entry) (old new : Option Holding) → i < length past → old ≡ holding (take i past) seat
    → new ≡ (if (get_or past i d).seat == seat then holding_after old (get_or past i d).kind else old) → new ≡ holding (take (i + 1) past) seat
holding_more past seat i d old new below is goes = rw (take_more past i d below)
    (goes ∙ ap (λ o. if (get_or past i d).seat == seat then holding_after o (get_or past i d).kind else o) is
    ∙ sym (holding_push (take i past) (get_or past i d) seat))

-- where no seat so far passes the test, and the next one does not, none does so far
pub none_more : (p : ℕ → Bool) (n : ℕ) → list_any p (range_with_len 0 n) ≡ false → p n ≡ false → list_any p (range_with_len 0 (n + 1)) ≡ false
none_more p n none this =
    rw (range_split 0 n 0 (n + 1) n (omega arith) (omega arith), list_any-append p (range_with_len 0 n) (n ∷ []), none, this) refl
