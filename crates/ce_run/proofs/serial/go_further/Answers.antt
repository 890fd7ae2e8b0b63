use Rattle.std.proofs.Common.{[], ◌∷◌, ◌++◌, ◌∙◌, ap, sym, subst, set, get_or, Some}
use Rattle.ce_run.proofs.Further.{HasNewState, gone-further, has-place, state-put_back, noted-in-place}
use Rattle.ce_run.proofs.serial.go_further.Goals as goal

pub returns : goal.returns
returns c =
    let run = c.requires.behind in
    let user = c.args.user in
    let user_states = c.args.user_states.now in
    let users = c.args.users.now in
    let user_state = c.in_ok-user_state.user_state in
    let one = c.index-users-user.result in
    gone-further c.args.machine.now c.carry_out.new.machine user_states (set (set user_states user c.take.new.self) user (Some user_state)) users
    (set users user (record { name = (get_or users user one).name; done = c.push.new.self })) user c.args.command.now c.in_ok-user_state.answer user_state
    c.requires.machine c.requires.user c.in_ok-user_state.ensures
    (subst (λ place. HasNewState user user_state user_states (set (set user_states user place) user (Some user_state))) (sym c.take.ensures.after)
    (state-put_back user_states user user_state (has-place run.0 c.args.machine.now user_states users run.1 run.2 user c.requires.user)))
    (noted-in-place users user one c.args.command.now c.in_ok-user_state.answer c.push.new.self c.requires.user c.index-users-user.is
    (c.in_ok-push.ensures.ok ∙ ap (λ command. (get_or users user one).done ++ (command, c.in_ok-user_state.answer) ∷ []) c.in_ok-command.ensures))
