-- What a sink took of a text, piece after piece.
-- Cited by `put_lines`, `write_log`.
use Rattle.std.proofs.Common.{◌≡◌, ◌<◌, ◌≤◌, ◌+◌, ℕ, min, List, [], ◌++◌, length, get_or, take, Option, refl, sym, ◌∙◌, arith, append_assoc, append-nil}
use Rattle.std.proofs.Math.Seq.{take-append-add}
use Rattle.std.proofs.lemmas.List.{take_min, take-append-le}
use Rattle.task_base.specs.declared.entry.Entry.{Entry}
use Rattle.env_io.specs.Bytes.{Gains}
use Rattle.env_io.proofs.Bytes.{Gains-nil, Gains-trans}
use Rattle.log_model.specs.LogText.{line_of, text_from, head_line, total_line, log_lines, log_text}
use Rattle.log_model.proofs.Laws.LogTexts.{text_from-take_more, log_lines-cut}

-- the lines before a place and the line of that place are the lines up to it
joined_lines : (log items : List Entry) (line : List ℕ) (i : ℕ) (d : Entry) → items ≡ log → line ≡ line_of i (get_or items i d) → i < length items
    → text_from 0 (take i log) ++ line ≡ text_from 0 (take (i + 1) log)
joined_lines log items line i d listed made within = let lines = text_from-take_more log i d (rw listed at within) in cc

-- the line of a place was taken after the lines before it
pub gains_line : (a b c : Option (List ℕ)) (log items : List Entry) (line : List ℕ) (i : ℕ) (d : Entry) → items ≡ log → line ≡ line_of i (get_or items i d)
    → i < length items → Gains a (text_from 0 (take i log)) b → Gains b line c → Gains a (text_from 0 (take (i + 1) log)) c
gains_line a b c log items line i d listed made within first second =
    rw (← joined_lines log items line i d listed made within) (Gains-trans a b c (text_from 0 (take i log)) line first second)

-- a front of the middle of a text is the end of a front of the text
front_of_text : (front middle rest : List ℕ) (m : ℕ) → front ++ take m middle ≡ take (length front + min m (length middle)) ((front ++ middle) ++ rest)
front_of_text front middle rest m =
    let within : min m (length middle) ≤ length middle = omega arith in
    rw (append_assoc, take-append-add, take-append-le, take_min) refl

-- a front of the middle of a text was taken after what stands before it
gains_front : (a b c : Option (List ℕ)) (front middle rest text : List ℕ) → text ≡ (front ++ middle) ++ rest → Gains a front b
    → (m : ℕ) × Gains b (take m middle) c → (n : ℕ) × Gains a (take n text) c
gains_front a b c front middle rest text same first second =
    let cut : front ++ take second.0 middle ≡ take (length front + min second.0 (length middle)) text = rw same (front_of_text front middle rest second.0) in
    (length front + min second.0 (length middle), rw (← cut) (Gains-trans a b c front (take second.0 middle) first second.1))

-- so it is with a front of the line of a place
pub gains_cut : (a b c : Option (List ℕ)) (log items : List Entry) (line : List ℕ) (i : ℕ) (d : Entry) → items ≡ log → line ≡ line_of i (get_or items i d)
    → i < length items → Gains a (text_from 0 (take i log)) b → (m : ℕ) × Gains b (take m line) c → (n : ℕ) × Gains a (take n (log_lines log)) c
gains_cut a b c log items line i d listed made within first second =
    let rest = log_lines-cut log (i + 1) in
    gains_front a b c (text_from 0 (take i log)) line rest.0 (log_lines log) (rw (joined_lines log items line i d listed made within) rest.1) first second

-- the three pieces of a text, and a front of each
pub gains_text : (a b c d : Option (List ℕ)) (log : List Entry) → Gains a head_line b → Gains b (log_lines log) c → Gains c (total_line (length log)) d
    → Gains a (log_text log) d
unfolding log_text
gains_text a b c d log head lines total =
    Gains-trans a b d head_line (log_lines log ++ total_line (length log)) head (Gains-trans b c d (log_lines log) (total_line (length log)) lines total)

pub cut_in_head : (a b : Option (List ℕ)) (log : List Entry) → (m : ℕ) × Gains a (take m head_line) b → (n : ℕ) × Gains a (take n (log_text log)) b
unfolding log_text
cut_in_head a b log cut = gains_front a a b [] head_line (log_lines log ++ total_line (length log)) (log_text log) refl (Gains-nil a) cut

-- the head and the lines, with what stands behind them
text_parts : (log : List Entry) → log_text log ≡ (head_line ++ log_lines log) ++ total_line (length log)
unfolding log_text
text_parts log = sym (append_assoc head_line (log_lines log) (total_line (length log)))

pub cut_in_lines : (a b c : Option (List ℕ)) (log : List Entry) → Gains a head_line b → (m : ℕ) × Gains b (take m (log_lines log)) c
    → (n : ℕ) × Gains a (take n (log_text log)) c
cut_in_lines a b c log head cut = gains_front a b c head_line (log_lines log) (total_line (length log)) (log_text log) (text_parts log) head cut

pub cut_in_total : (a b c d : Option (List ℕ)) (log : List Entry) → Gains a head_line b → Gains b (log_lines log) c
    → (m : ℕ) × Gains c (take m (total_line (length log))) d → (n : ℕ) × Gains a (take n (log_text log)) d
cut_in_total a b c d log head lines cut = gains_front a c d (head_line ++ log_lines log) (total_line (length log)) [] (log_text log)
    (text_parts log ∙ sym (append-nil _)) (Gains-trans a b c head_line (log_lines log) head lines) cut
