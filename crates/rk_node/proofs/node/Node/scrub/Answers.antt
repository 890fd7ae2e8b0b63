use Rattle.std.proofs.Common.{ℕ, ◌+◌, ◌<◌, length, ap, sym, ◌∙◌, None, subst, arith, length-append}
use Rattle.ce_model.specs.Limits.{process_count_lem}
use Rattle.ce_model.specs.Blocks.{with_ids}
use Rattle.xm_block.specs.Stores.{ids_of}
use Rattle.rk_node.specs.Standing.{node_model}
use Rattle.rk_node.specs.Hearings.{AreNewToStore, process_block_ids}
use Rattle.rk_node.proofs.Processes.{length-processes}
use Rattle.rk_node.proofs.Moved.{put_all-append, apart-first, apart-next, ids_from, ids-past, ids-split, node-next, node-scrubbed}
use Rattle.rk_node.proofs.node.Node.scrub.Goals as goal

pub empty_store-requires-clause-apart : goal.empty_store-requires-clause-apart
empty_store-requires-clause-apart c =
    let n = node_model c.args.self.now in
    apart-first n.store (ids_from 0 n.processes) c.args.out.now c.requires.apart

pub empty_store-requires-clause-room : goal.empty_store-requires-clause-room
empty_store-requires-clause-room c =
    let n = node_model c.args.self.now in
    omega (arith, c.requires.room, length-append n.store (ids_from 0 n.processes))

pub loop-pid-init : goal.loop-pid-init
loop-pid-init c =
    let n = node_model c.args.self.now in
    let rest = ids_from 0 n.processes in
    record {
      node = c.empty_store.ensures.node;
      moved = ap (with_ids rest) c.empty_store.ensures.moved ∙ sym (put_all-append n.store rest (ids_of c.args.out.now.blocks));
      apart = apart-next n.store rest c.args.out.now c.empty_store.new.out c.empty_store.ensures.moved c.requires.apart;
      spare = omega (arith, c.empty_store.ensures.spare, length-append n.store rest);
      batch = c.empty_store.ensures.batch;
      room = c.empty_store.ensures.room;
    }

pub scrub_process-requires-clause-apart : goal.scrub_process-requires-clause-apart
scrub_process-requires-clause-apart c =
    let n = node_model c.args.self.now in
    let split = ids-split n (node_model c.loop-pid.self) c.loop-pid.pid c.loop-pid.invariant.node (omega (arith, length-processes c.args.self.now, process_count_lem)) in
    apart-first _ (ids_from (c.loop-pid.pid + 1) n.processes) c.loop-pid.out (subst (λ ids. AreNewToStore ids c.loop-pid.out) split c.loop-pid.invariant.apart)

pub scrub_process-requires-clause-room : goal.scrub_process-requires-clause-room
scrub_process-requires-clause-room c =
    let n = node_model c.args.self.now in
    let split = ids-split n (node_model c.loop-pid.self) c.loop-pid.pid c.loop-pid.invariant.node (omega (arith, length-processes c.args.self.now, process_count_lem)) in
    omega (arith, c.requires.room, c.loop-pid.invariant.spare, ap {B = ℕ} length split, length-append (process_block_ids c.loop-pid.pid (node_model c.loop-pid.self)) (ids_from (c.loop-pid.pid + 1) n.processes))

pub loop-pid-preserved : goal.loop-pid-preserved
loop-pid-preserved c =
    let was = c.loop-pid.invariant in
    let n = node_model c.args.self.now in
    let now = node_model c.loop-pid.self in
    let k = c.loop-pid.pid in
    let fewer : k < length n.processes = omega (arith, length-processes c.args.self.now, process_count_lem) in
    let first = process_block_ids k now in
    let rest = ids_from (k + 1) n.processes in
    let split = ids-split n now k was.node fewer in
    let out = c.loop-pid.out in
    let done = c.scrub_process.ensures in
    record {
      node = node-next n now (node_model c.scrub_process.new.self) k was.node done.node fewer;
      moved = ap (with_ids rest) done.moved ∙ sym (put_all-append first rest (ids_of out.blocks))
          ∙ sym (ap (λ ids. with_ids ids (ids_of out.blocks)) split) ∙ was.moved;
      apart = apart-next first rest out c.scrub_process.new.out done.moved (subst (λ ids. AreNewToStore ids out) split was.apart);
      spare = omega (arith, was.spare, done.spare, ap {B = ℕ} length split, length-append first rest);
      batch = done.batch ∙ was.batch;
      room = done.room ∙ was.room;
    }

pub invariant_of-scrub_process : goal.invariant_of-scrub_process
invariant_of-scrub_process c = omega (arith, process_count_lem)

pub returns-clause-node : goal.returns-clause-node
returns-clause-node c =
    let n = node_model c.args.self.now in
    let now = node_model c.loop-pid.self in
    ap (λ polling. record now { polling_ids = polling; turn = None }) c.clear.ensures.items
    ∙ node-scrubbed n now c.loop-pid.pid c.loop-pid.invariant.node (omega (arith, process_count_lem)) (omega (arith, length-processes c.args.self.now))

pub returns-clause-moved : goal.returns-clause-moved
returns-clause-moved c =
    let n = node_model c.args.self.now in
    let none = ids-past c.loop-pid.pid n.processes (omega (arith, process_count_lem, length-processes c.args.self.now)) in
    sym (ap (λ ids. with_ids ids (ids_of c.loop-pid.out.blocks)) none) ∙ c.loop-pid.invariant.moved

pub returns-clause-spare : goal.returns-clause-spare
returns-clause-spare c =
    let n = node_model c.args.self.now in
    let none = ids-past c.loop-pid.pid n.processes (omega (arith, process_count_lem, length-processes c.args.self.now)) in
    omega (arith, c.loop-pid.invariant.spare, ap {B = ℕ} length none)
