use Rattle.std.proofs.Common.{sym, ◌∙◌}
use Rattle.next_entry.specs.declared.cause.Explanation.TheVariants as explanations
use Rattle.env_explain.proofs.Explained.{illegal_prefix, legal_prefix_told, names_allowed, nothing_of_the_end}
use Rattle.env_explain.proofs.RuledOut.{rules_out_all}
use Rattle.env_explain.proofs.logs.explain_prefix.Goals as goal

pub returns-in-Legal-clause-verdict : goal.returns-in-Legal-clause-verdict
returns-in-Legal-clause-verdict c = sym c.in-Legal.is ∙ c.in_ok-verdict.ensures.verdict

pub returns-in-Legal-clause-legal : goal.returns-in-Legal-clause-legal
returns-in-Legal-clause-legal c = legal_prefix_told c.args.script.now c.args.log.now.items explanations.Legal (returns-in-Legal-clause-verdict c)

pub returns-in_ok-told-in-Illegal-clause-verdict : goal.returns-in_ok-told-in-Illegal-clause-verdict
returns-in_ok-told-in-Illegal-clause-verdict c = c.in_ok-told-in-Illegal.ensures.verdict ∙ sym c.in-Illegal.is ∙ c.in_ok-verdict.ensures.verdict

pub returns-in_ok-told-in-Illegal-clause-legal : goal.returns-in_ok-told-in-Illegal-clause-legal
returns-in_ok-told-in-Illegal-clause-legal c =
    legal_prefix_told c.args.script.now c.args.log.now.items _ (returns-in_ok-told-in-Illegal-clause-verdict c)

pub returns-in_ok-told-in-Illegal-clause-open_end : goal.returns-in_ok-told-in-Illegal-clause-open_end
returns-in_ok-told-in-Illegal-clause-open_end c =
    nothing_of_the_end _ _ c.in-Illegal.place _ (illegal_prefix _ _ c.in-Illegal.place (sym c.in_ok-verdict.ensures.verdict ∙ c.in-Illegal.is)).1
    c.in_ok-told-in-Illegal.ensures.verdict c.in_ok-told-in-Illegal.ensures.cause

pub returns-in_ok-told-in-Illegal-clause-named : goal.returns-in_ok-told-in-Illegal-clause-named
returns-in_ok-told-in-Illegal-clause-named c = names_allowed c.args.script.now c.args.log.now.items _ c.in_ok-told-in-Illegal.ensures.cause

pub returns-in_ok-told-in-Illegal-clause-ruled_out : goal.returns-in_ok-told-in-Illegal-clause-ruled_out
returns-in_ok-told-in-Illegal-clause-ruled_out c = rules_out_all c.args.script.now c.args.log.now.items _ c.requires.closed
    c.in_ok-told-in-Illegal.ensures.cause

pub explain_at-requires : goal.explain_at-requires
explain_at-requires c = record {
  plan = c.requires;
  illegal = (illegal_prefix _ _ c.in-Illegal.place (sym c.in_ok-verdict.ensures.verdict ∙ c.in-Illegal.is)).0;
}
