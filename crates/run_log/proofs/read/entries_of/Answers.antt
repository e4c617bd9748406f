use Rattle.std.proofs.Common.{◌≡◌, ◌∷◌, [], ◌++◌, ◌<◌, length, sym, refl, arith, length-append}
use Rattle.std.proofs.lemmas.List.{take-append-drop}
use Rattle.std.proofs.lemmas.List.Elements.{All-push}
use Rattle.log_model.specs.Fits.{Fits}
use Rattle.log_model.specs.LogText.{log_lines}
use Rattle.run_log.proofs.LinesOfText.{first_line}
use Rattle.run_log.proofs.LogLines.{one_more, line_is_some, no_line_begins}
use Rattle.run_log.proofs.read.entries_of.Goals as goal

pub loop-entry-init : goal.loop-entry-init
unfolding log_lines
loop-entry-init c = record {
  same = rw c.in_ok-entries.ensures.items refl;
  fit = rw c.in_ok-entries.ensures.items (λ k d within. absurd (omega arith));
  few = rw c.in_ok-entries.ensures.items (omega arith);
}

pub returns-in_default-clause-read : goal.returns-in_default-clause-read
returns-in_default-clause-read c =
    let place : c.len.result ≡ length c.loop-entry.entries.items = cc in
    let none = rw place at c.entry_at.ensures.none c.in_default.is in
    record {
      same = c.loop-entry.invariant.same;
      fit = c.loop-entry.invariant.fit;
      no_further = no_line_begins _ c.loop-entry.rest.now c.split_at.result.0.now c.split_at.result.1.now
          (λ some. rw (c.split_at.ensures.front, c.split_at.ensures.back) (first_line _ _ c.line_end.ensures some)) none;
    }

pub loop-entry-preserved : goal.loop-entry-preserved
loop-entry-preserved c =
    let place : c.len.result ≡ length c.loop-entry.entries.items = cc in
    let cut : c.loop-entry.rest.now ≡ c.split_at.result.0.now ++ c.split_at.result.1.now =
    rw (c.split_at.ensures.front, c.split_at.ensures.back) (sym (take-append-drop _ _)) in
    let read = rw place at c.in-Some.ensures.found in
    let some : 0 < length c.split_at.result.0.now = line_is_some _ _ _ read in
    record {
      same = rw c.in_ok-push.ensures.items (one_more _ _ _ _ _ _ c.loop-entry.invariant.same cut read);
      fit = rw c.in_ok-push.ensures.items (All-push Fits _ _ c.loop-entry.invariant.fit read.fits);
      few = rw c.in_ok-push.ensures.items (omega (arith, some, length-append c.loop-entry.entries.items (c.in-Some.entry ∷ [])));
    }
