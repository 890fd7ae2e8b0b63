-- Rounds of a cube, as the cube knows them.
use Rattle.std.proofs.Common.{◌≡◌, ℕ, ◌||◌, false, List, [], ◌∷◌, ◌++◌, map, refl, ap, ap₂, ◌∙◌}
use Rattle.std.specs.Option.{option_map_or}
use Rattle.std.proofs.lemmas.List.{map-append}
use Rattle.ce_model.specs.declared.topology.Subcube.{Subcube}
use Rattle.ce_model.specs.declared.entry.Entry.{Entry}
use Rattle.ce_model.specs.declared.entry.What.{What}
use Rattle.ce_model.specs.declared.entry.What.TheVariants.{Send, Spawn, Kill}
use Rattle.ce_model.specs.Trace.{is_work}
use Rattle.ce_model.specs.Renaming.{entry_inward}
use Rattle.ce_model.specs.Literals.{entry_of}
use Rattle.ce_script.specs.Rounds.{entry_take_result, joined_lists, has_work}

pub joined-map : (f : Entry → Entry) (lists : List (List Entry)) → map f (joined_lists lists) ≡ joined_lists (map (map f) lists)
joined-map f [] = refl
joined-map f (list ∷ lists) = map-append f list (joined_lists lists) ∙ ap (λ more. map f list ++ more) (joined-map f lists)

-- what a node is given is the same to its cube
given-inward : (sub : Subcube) (user actor : ℕ) (what : What) → entry_take_result (entry_inward sub (entry_of user actor what)) ≡ entry_take_result (entry_of user actor what)
given-inward sub user actor (Send pid first to bytes) = refl
given-inward sub user actor (Spawn pid image to fresh) = refl
given-inward sub user actor (Kill pid to found) = refl
given-inward sub user actor other = refl

pub work-inward : (sub : Subcube) (round : List Entry) → has_work (map (entry_inward sub) round) ≡ has_work round
work-inward sub [] = refl
work-inward sub (entry ∷ round) =
    ap₂ (λ a b. a || b) (ap (λ given. option_map_or is_work given false) (given-inward sub entry.user entry.actor entry.what)) (work-inward sub round)
