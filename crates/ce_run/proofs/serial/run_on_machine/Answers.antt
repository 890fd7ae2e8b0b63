use Rattle.std.proofs.Common.{◌≡◌, ℕ, suc, ◌+◌, ◌<◌, ◌≤◌, List, ◌++◌, map, length, take, drop, get_or, sym, ◌∙◌, ap, subst, arith}
use Rattle.ce_model.specs.Limits.{greatest_users}
use Rattle.ce_host.specs.declared.command.Command.{Command}
use Rattle.ce_script.specs.declared.record.UserRecord.{UserRecord}
use Rattle.ce_script.specs.Legal.{IsLegal}
use Rattle.ce_script.specs.Rounds.{serial}
use Rattle.ce_script.specs.Serial.{IsSerial}
use Rattle.ce_run.specs.Script.{IsRunBehind, HasGoneFurther}
use Rattle.ce_run.proofs.Further.{HasDoneCommands, run-opens-by, next-within, within-machine, same-images, part-more, whole-again, whole-run}
use Rattle.ce_run.proofs.serial.run_on_machine.Goals as goal

pub open_user_states-requires : goal.open_user_states-requires
open_user_states-requires c = subst (λ n. n ≤ greatest_users) (sym c.len.ensures) c.args.limited_script.now.within.users

pub loop-user-init : goal.loop-user-init
loop-user-init c =
    run-opens-by c.args.limited_script.now.script c.in_ok-machine.machine c.in_ok-user_states.user_states.items c.in_ok-users.users.items c.len.result c.as_slice-2.result.now c.in_ok-machine.ensures
    c.len.ensures c.in_ok-user_states.ensures c.as_slice-2.ensures c.in_ok-users.ensures

pub go_further-requires : goal.go_further-requires
go_further-requires c =
    let script = c.args.limited_script.now.script in
    let machine = c.loop-user.machine in
    let user_states = c.loop-user.user_states.items in
    let users = c.loop-user.users.items in
    let i = c.loop-user.user-index in
    let part = c.loop-user.invariant in
    let item = c.loop-user-item.result in
    let below = subst (λ (commands : List (ℕ × Command)). i < length commands) c.as_slice-user-items.ensures c.loop-user-test.true in
    let is = subst (λ (commands : List (ℕ × Command)). item ≡ get_or commands i item) c.as_slice-user-items.ensures c.loop-user-item.is in
    let own = next-within script machine user_states users i part c.args.limited_script.now.within item.0 item.1 below is in
    record {
      machine = within-machine script machine user_states users i part c.args.limited_script.now.within c.requires.users;
      images = same-images script machine user_states users i part c.as_slice-in-loop-user.result.now
          (c.as_slice-in-loop-user.ensures.value ∙ c.in_ok-images.ensures ∙ ap (map (λ named. named.image)) c.as_slice.ensures);
      user = subst (λ (users : List UserRecord). item.0 < length users) (sym c.as_mut_slice-in-loop-user.ensures.value) own.0;
      command = own.1;
      behind = (
        script,
        part.all,
        subst (λ user_states. IsRunBehind script machine user_states c.as_mut_slice-in-loop-user.result.now part.all) (sym c.as_mut_slice.ensures.value)
            (subst (λ users. IsRunBehind script machine user_states users part.all) (sym c.as_mut_slice-in-loop-user.ensures.value) part.behind),
      );
    }

pub loop-user-preserved : goal.loop-user-preserved
loop-user-preserved c =
    let item = c.loop-user-item.result in
    let i = c.loop-user.user-index in
    let script = c.args.limited_script.now.script in
    let machine = c.loop-user.machine in
    let machine' = c.go_further.new.machine in
    let user_states = c.loop-user.user_states.items in
    let users = c.loop-user.users.items in
    let below = subst (λ (commands : List (ℕ × Command)). i < length commands) c.as_slice-user-items.ensures c.loop-user-test.true in
    let is = subst (λ (commands : List (ℕ × Command)). item ≡ get_or commands i item) c.as_slice-user-items.ensures c.loop-user-item.is in
    let gone = subst (λ user_states. HasGoneFurther machine machine' user_states c.go_further.new.user_states users c.go_further.new.users item.0 item.1) c.as_mut_slice.ensures.value
    (subst (λ users. HasGoneFurther machine machine' c.as_mut_slice.result.now c.go_further.new.user_states users c.go_further.new.users item.0 item.1)
    c.as_mut_slice-in-loop-user.ensures.value c.in_ok-go_further.ensures) in
    let next : suc i ≡ i + 1 = omega arith in
    let all_states = whole-again c.loop-user.user_states.len user_states c.go_further.new.user_states c.loop-user.user_states.ok.0 (c.go_further.auto.user_states ∙ ap length c.as_mut_slice.ensures.value) in
    let all_users = whole-again c.loop-user.users.len users c.go_further.new.users c.loop-user.users.ok.0
    (c.go_further.auto.users ∙ ap length c.as_mut_slice-in-loop-user.ensures.value) in
    subst
    (λ user_states. HasDoneCommands script machine' user_states (take c.loop-user.users.len (c.go_further.new.users ++ drop (length c.go_further.new.users) c.loop-user.users.items)) (i + 1))
    (sym all_states)
    (subst (λ users. HasDoneCommands script machine' c.go_further.new.user_states users (i + 1)) (sym all_users)
    (subst (HasDoneCommands script machine' c.go_further.new.user_states c.go_further.new.users) next
    (part-more script machine user_states users i c.loop-user.invariant machine' c.go_further.new.user_states c.go_further.new.users item.0 item.1 below is gone)))

pub returns-clause-legal : goal.returns-clause-legal
returns-clause-legal c =
    let script = c.args.limited_script.now.script in
    let end : c.loop-user.user-index ≡ length script.commands =
    omega (arith, c.loop-user-test.false, c.loop-user.auto.user-index-end, ap length c.as_slice-user-items.ensures) in
    subst (λ (users : List UserRecord). IsLegal serial script (record { users = users; history = c.from_vec-2.result })) (sym c.from_vec.ensures)
    (whole-run script c.loop-user.machine c.loop-user.user_states.items c.loop-user.users.items c.loop-user.user-index c.loop-user.invariant c.args.limited_script.now.within end
    c.from_vec-2.result (c.from_vec-2.ensures ∙ c.into_history.ensures.entries)).0

pub returns-clause-serial : goal.returns-clause-serial
returns-clause-serial c =
    let script = c.args.limited_script.now.script in
    let end : c.loop-user.user-index ≡ length script.commands =
    omega (arith, c.loop-user-test.false, c.loop-user.auto.user-index-end, ap length c.as_slice-user-items.ensures) in
    subst (λ (users : List UserRecord). IsSerial script (record { users = users; history = c.from_vec-2.result })) (sym c.from_vec.ensures)
    (whole-run script c.loop-user.machine c.loop-user.user_states.items c.loop-user.users.items c.loop-user.user-index c.loop-user.invariant c.args.limited_script.now.within end
    c.from_vec-2.result (c.from_vec-2.ensures ∙ c.into_history.ensures.entries)).1
