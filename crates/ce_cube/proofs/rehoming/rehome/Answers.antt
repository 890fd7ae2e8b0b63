use Rattle.ce_cube.proofs.Returns.{boxes-fit, drained-fit, boxes-apart, drained-apart, boxes-idle, boxes-emptied, gathered, least, boxes-home, host-home}
use Rattle.ce_cube.proofs.rehoming.rehome.Goals as goal

pub scrub_all-requires : goal.scrub_all-requires
scrub_all-requires c =
    let holds = c.requires.all.1 in
    record { idle = boxes-idle _ _ _ _ holds; room = boxes-fit _ _ _ _ holds; apart = boxes-apart _ _ _ _ holds }

pub give_all-requires-clause-room : goal.give_all-requires-clause-room
give_all-requires-clause-room c = drained-fit _ _ _ _ c.requires.all.1 c.scrub_all.new.store c.scrub_all.ensures.spare

pub give_all-requires-clause-apart : goal.give_all-requires-clause-apart
give_all-requires-clause-apart c = drained-apart _ _ _ _ c.requires.all.1 c.scrub_all.new.store c.scrub_all.ensures.moved

pub send_all_home-requires-clause-emptied : goal.send_all_home-requires-clause-emptied
send_all_home-requires-clause-emptied c = boxes-emptied _ _ _ _ c.requires.all.1 c.scrub_all.new.boxes c.scrub_all.ensures.boxes

pub send_all_home-requires-clause-least : goal.send_all_home-requires-clause-least
send_all_home-requires-clause-least c =
    let all = gathered _ _ _ _ c.requires.all.1 c.scrub_all.new.store c.give_all.new.store c.scrub_all.ensures.moved c.give_all.ensures.moved c.give_all.ensures.rising in
    least _ _ _ _ c.requires.all.1 c.scrub_all.new.boxes _ c.scrub_all.ensures.boxes all

pub returns : goal.returns
returns c = record {
  home = λ grant holds.
      (let all = gathered grant _ _ _ holds c.scrub_all.new.store c.give_all.new.store c.scrub_all.ensures.moved c.give_all.ensures.moved c.give_all.ensures.rising in (
        boxes-home grant _ _ _ holds c.scrub_all.new.boxes c.send_all_home.new.boxes c.scrub_all.ensures.boxes c.send_all_home.ensures.boxes,
        host-home grant _ _ _ holds c.scrub_all.new.boxes c.scrub_all.new.store c.give_all.new.store c.send_all_home.new.store
            c.scrub_all.ensures.boxes c.scrub_all.ensures.spare c.give_all.ensures.spare c.send_all_home.ensures.spare all c.send_all_home.ensures.rest,
      ));
}
