use Rattle.std.proofs.Common.{◌≡◌, ◌++◌, ℕ, arith, ap, sym, ◌∙◌, map}
use Rattle.std.specs.Int.{w32, to_le_bytes}
use Rattle.ce_script.specs.declared.load.TheConstants.{HAND_OVERS}
use Rattle.ce_script.specs.Load.{load_message, load_commands, load_number, numbered_commands}
use Rattle.ce_script.proofs.MadeLoads.{commands_below, commands-more, number-more}
use Rattle.ce_script.proofs.load.load_commands.Goals as goal

pub loop-user-preserved : goal.loop-user-preserved
loop-user-preserved c =
    let user = c.loop-user.user in
    let number : c.next_number-number.result ≡ load_number c.args.seed user = c.next_number-number.ensures ∙ c.loop-user.invariant.number in
    let message : c.in_ok-message.field-0 ≡ load_message c.args.seed user =
    c.in_ok-message.ensures ∙ ap (λ (k : ℕ). to_le_bytes w32 k ++ to_le_bytes w32 HAND_OVERS) number in
    let added = ap (λ bytes. map (λ command. (user, command)) (load_commands bytes)) message in
    record {
      commands = c.in_ok-push_commands.ensures ∙ ap (λ after. c.loop-user.commands ++ after) added ∙ ap (λ before. before ++ numbered_commands c.args.seed user) c.loop-user.invariant.commands ∙ sym (commands-more c.args.seed user);
      number = number-more c.args.seed user c.next_number-number.result number;
    }

pub returns : goal.returns
returns c =
    let all : c.loop-user.user ≡ 4 = omega arith in
    c.loop-user.invariant.commands ∙ ap (commands_below c.args.seed) all
