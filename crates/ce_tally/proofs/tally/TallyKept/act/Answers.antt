use Rattle.std.proofs.Common.{ℕ, ◌+◌, ◌%◌, ◌^◌, sym, ap, ◌∙◌, subst}
use Rattle.ce_tally.specs.Sums.{sum_from, IsTallied}
use Rattle.ce_tally.proofs.SumLemmas.{sum_from-more, IsTallied-more}
use Rattle.ce_tally.proofs.tally.TallyKept.act.Goals as goal

pub invariant_of-self-2 : goal.invariant_of-self-2
invariant_of-self-2 c = ap (λ (s : ℕ). (s + c.args.call.0) % 2 ^ 64) c.self.invariant
    ∙ (sym (sum_from-more 0 c.self.inside.additions.items (record { who = c.args.who; number = c.args.call.0; sum_before = c.self.inside.sum })) ∙ ap (sum_from 0) (sym c.in-Ok.ensures.items))

pub returns-clause-lawful : goal.returns-clause-lawful
returns-clause-lawful c h = subst (IsTallied 0) (sym c.in-Ok.ensures.items)
    (IsTallied-more 0 c.self.inside.additions.items (record { who = c.args.who; number = c.args.call.0; sum_before = c.self.inside.sum }) (subst (IsTallied 0) (sym c.self.view_is) h) c.self.invariant)
