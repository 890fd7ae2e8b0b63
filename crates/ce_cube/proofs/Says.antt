-- What a box says that stands for a node is the node's next call, which fits.
use Rattle.std.proofs.Common.{◌≡◌, ℕ, ◌^◌, ◌<◌, true, false, ◌==◌, IsTrue, IsSomeAnd, List, Option, Some, refl, ap, sym, ◌∙◌, subst, inr}
use Rattle.std.proofs.lemmas.Bool.{both_ways, lt-ltb}
use Rattle.ce_model.specs.declared.topology.TheConstants.{HOST}
use Rattle.ce_model.specs.declared.topology.BlockId.{BlockId}
use Rattle.ce_model.specs.declared.entry.Entry.{Entry}
use Rattle.ce_model.specs.Node.{Node, Call, take_call, send_call, spawn_call, kill_call, note_call, arm_call, look_call, mail_call}
use Rattle.ce_model.specs.Saying.{Saying, says}
use Rattle.ce_model.specs.Cube.{Cube, CubeState, opening, actor_call, Wish, wish_of_call, next_call}
use Rattle.ce_model.specs.Subcubes.{node_of}
use Rattle.ce_model.specs.Renaming.{block_outward, renamed_call_blocks}
use Rattle.ce_model.specs.Views.{view}
use Rattle.ce_model.specs.Machine.{MachineParts, HeldCube, IsCallOf, cube_of}
use Rattle.ce_model.proofs.Subcubes.{is_inside-node_of}
use Rattle.ce_script.specs.Rounds.{asks_for_work}
use Rattle.ce_solo.proofs.Projection.Numbers.{node_no_host, out_no_host, relative_out}
use Rattle.ce_solo.proofs.Projection.Law.{projected}
use Rattle.ce_cube.specs.Boxes.{trace_node, IsStandIn, IsSaidBy}
use Rattle.ce_cube.specs.Laws.{BoxesSay}
use Rattle.ce_cube.proofs.Held.{IsSeen, by_seen}
use Rattle.ce_cube.proofs.Users.{user-within}
use Rattle.ce_cube.proofs.Seats.{box-says, box-again}

-- a call asks for work by whatever names
pub asks-renamed : (rename : BlockId → BlockId) (call : Call) → asks_for_work (renamed_call_blocks rename call) ≡ asks_for_work call
asks-renamed rename (take_call asking dead poller) = refl
asks-renamed rename (send_call pid to bytes) = refl
asks-renamed rename (spawn_call pid image to) = refl
asks-renamed rename (kill_call pid to) = refl
asks-renamed rename (note_call pid word) = refl
asks-renamed rename (arm_call count) = refl
asks-renamed rename look_call = refl
asks-renamed rename mail_call = refl

-- a node makes the call that it says
call_by-node : (cube : Cube) (o : CubeState) (t : List Entry) (r : ℕ) (wish : Option Wish) → (r == HOST) ≡ false → r < 2 ^ cube.dim
    → actor_call cube o t r wish ≡ Some (next_call cube o r t)
call_by-node cube o t r wish node below = let is = lt-ltb r (2 ^ cube.dim) below in rw (node, is) refl

module _ (parts : MachineParts) (history : List Entry) (cube : HeldCube) (now : IsSeen parts history cube) (r : ℕ) (below : r < 2 ^ cube.grant.dim) where
  abbrev node : Node
  node = trace_node parts history cube.number cube.grant r

  call-of : (call : Call) → call ≡ renamed_call_blocks (block_outward cube.grant) (says node).call → IsCallOf parts history (node_of cube.grant.sub r) call cube
  call-of call is =
      let own = cube_of parts.images cube.grant in
      record {
        inner = (says node).call;
        inside = inr (is_inside-node_of cube.grant.sub r now.placed.sub.apart (rw now.placed.sub.dimension below));
        next = ap (λ actor. actor_call own (opening own) (view history cube.number) actor (wish_of_call (says node).call)) (relative_out parts.dim cube.grant now.placed r below)
            ∙ call_by-node own (opening own) (view history cube.number) r (wish_of_call (says node).call) (node_no_host parts.dim cube.grant now.placed r below) below;
        renamed = sym is;
        within = λ host. absurd (both_ways _ (out_no_host parts.dim cube.grant now.placed r) host);
        not_drained = now.goes;
      }

  pub says-of : (box : Node) → IsStandIn cube.grant node box → IsSaidBy parts history cube.number cube.grant r box
  says-of box stands =
      let said = box-says parts history cube now r below box stands in
      let call = ap (λ (saying : Saying). saying.call) said in
      let was = (projected parts history now.machine now.lawful).held cube.grant.user cube now.holds in
      record {
        at_rest = ap (λ (saying : Saying). saying.node) said;
        call = call;
        fits = (
          user-within parts history cube.number cube.grant was.behind now.lawful was.found,
          subst (λ held. IsSomeAnd held (IsCallOf parts history (node_of cube.grant.sub r) (says box).call)) (sym now.holds) (call-of (says box).call call),
        );
        again = λ work. box-again parts history cube now r below box stands (asks call work);
        in_step = λ work. record { at_rest = ap (λ (saying : Saying). saying.node) said; asks = asks call work };
      }
    where
      asks : (says box).call ≡ renamed_call_blocks (block_outward cube.grant) (says node).call → IsTrue (asks_for_work (says box).call) → asks_for_work (says node).call ≡ true
      asks call work = sym (asks-renamed (block_outward cube.grant) (says node).call) ∙ ap asks_for_work (sym call) ∙ work

pub boxes-say : BoxesSay
boxes-say parts history number grant machine lawful held r box below stands =
    by_seen
    (λ number grant. r < 2 ^ grant.dim → IsStandIn grant (trace_node parts history number grant r) box → IsSaidBy parts history number grant r box)
    parts history number grant machine lawful (λ cube now below stands. says-of parts history cube now r below box stands) held below stands
