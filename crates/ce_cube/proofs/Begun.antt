-- A getcube that was granted begins a cube.
use Rattle.std.proofs.Common.{◌≡◌, ℕ, false, [], ◌∷◌, ◌++◌, length, refl, ap, sym, ◌∙◌}
use Rattle.ce_model.specs.Node.{Node, opening_node}
use Rattle.ce_model.specs.Saying.{Saying, idle_saying, says}
use Rattle.ce_model.specs.Cube.{CubeState, opening, state, hoststore}
use Rattle.ce_model.specs.Renaming.{CubeGrant, node_outward}
use Rattle.ce_model.specs.Views.{view}
use Rattle.ce_model.specs.Machine.{MachineState, cube_held_by, after, getcube, IsLawfulEntry, cube_of}
use Rattle.ce_model.proofs.Walked.{each-more}
use Rattle.ce_script.specs.Rounds.{asks_for_work}
use Rattle.ce_solo.proofs.Stands.{state_after_trace-nil}
use Rattle.ce_solo.proofs.Projection.Views.{found-new, view-is}
use Rattle.ce_solo.proofs.Projection.Held.{granted-own}
use Rattle.ce_solo.proofs.Projection.Law.{projected, after-more}
use Rattle.ce_cube.specs.Boxes.{IsInStep, grant_entry}
use Rattle.ce_cube.specs.Laws.{GrantsBegin}

-- a fresh node asks for work
fresh-says : (r dim images : ℕ) → says (opening_node r dim images) ≡ idle_saying (opening_node r dim images)
unfolding says
fresh-says r dim images = refl

fresh-in_step : (grant : CubeGrant) (node : Node) (r dim images : ℕ) → node ≡ opening_node r dim images → IsInStep grant node (node_outward grant (opening_node r dim images))
fresh-in_step grant node r dim images is =
    let said = ap says is ∙ fresh-says r dim images in
    record {
      at_rest = ap (λ (saying : Saying). node_outward grant saying.node) (sym said);
      asks = ap (λ (saying : Saying). asks_for_work saying.call) said;
    }

pub grants-begin : GrantsBegin
grants-begin parts history grant machine lawful fits is =
    let h' = history ++ grant_entry grant ∷ [] in
    let own = cube_of parts.images grant in
    let count = (projected parts history machine lawful).count in
    let trace : view h' (after history).grant_count ≡ [] =
    ap (view h') count ∙ view-is h' _ grant [] (found-new history (grant_entry grant) grant refl) in
    let nodes = λ (r : ℕ). ap (state own (opening own) r) trace ∙ ap (λ (s : CubeState). s.node r) (state_after_trace-nil own (opening own)) in
    record {
      lawful = each-more (IsLawfulEntry parts) history (grant_entry grant) lawful (record { request = getcube grant.dim; fits = fits; answer = is });
      held = record {
        cube = record { number = (after history).grant_count; grant = grant; is_drained = false; allowed_dispatches = 0; made_dispatches = 0; parcel_count = 0; mail = [] };
        held = ap (λ (state : MachineState). cube_held_by state grant.user) (after-more history (grant_entry grant)) ∙ granted-own grant (after history) fits.1.2;
        number_is = refl;
        grant_is = refl;
        goes_on = refl;
      };
      trace = trace;
      nodes = nodes;
      store = ap (hoststore (opening own)) trace ∙ ap (λ (s : CubeState). s.hoststore) (state_after_trace-nil own (opening own));
      in_step = λ r. fresh-in_step grant _ r grant.dim (length parts.images) (nodes r);
    }
