-- What the law of projection says further: the view of each grant is legal, and the same where the
-- same was asked.
use Rattle.std.proofs.Common.{◌≡◌, ℕ, List, Option, Some, None, IfSome, refl, ap, ap₂, sym, ◌∙◌}
use Rattle.ce_model.specs.declared.entry.Entry.{Entry}
use Rattle.ce_model.specs.Cube.{Cube, opening, solo, host_wishes, actors, IsAlone}
use Rattle.ce_model.specs.Renaming.{CubeGrant}
use Rattle.ce_model.specs.Views.{history_behind_grant, view}
use Rattle.ce_model.specs.Machine.{MachineParts, IsMachine, cube_of}
use Rattle.ce_solo.specs.Laws.{IsLegalTrace, LawfulIsLegal, AreSame, ViewsAreSame}
use Rattle.ce_solo.proofs.Fresh.{fresh_sound}
use Rattle.ce_solo.proofs.Stands.{stands-front}
use Rattle.ce_solo.proofs.Ordered.{in_order}
use Rattle.ce_solo.proofs.Projection.Numbers.{IsPlaced}
use Rattle.ce_solo.proofs.Projection.Own.{own_cube}
use Rattle.ce_solo.proofs.Projection.Law.{IsProjectedHistory, projected, found_alone}

legal : (parts : MachineParts) (grant : CubeGrant) (t : List Entry) → IsMachine parts → IsPlaced parts.dim grant → IsAlone (cube_of parts.images grant) t
    → IsLegalTrace (cube_of parts.images grant) t
legal parts grant t machine placed alone =
    let cube = cube_of parts.images grant in
    let of = own_cube parts grant machine placed in
    let sound = fresh_sound cube of in (
      alone,
      (λ front is. (stands-front cube (opening cube) t front of sound alone is).sound.owners),
      in_order cube (opening cube) t of sound alone,
    )

found_legal : (parts : MachineParts) (history : List Entry) (number : ℕ) → IsMachine parts → IsProjectedHistory parts history → (found : Option (CubeGrant × List Entry))
    → history_behind_grant history number ≡ found → IfSome found (λ found. IsLegalTrace (cube_of parts.images found.0) (view history number))
found_legal parts history number machine all None is = tt
found_legal parts history number machine all (Some found) is =
    legal parts found.0 (view history number) machine (all.views number found.0 found.1 is).placed (found_alone parts history number all (Some found) is)

pub lawful_is_legal : LawfulIsLegal
lawful_is_legal parts history number machine lawful =
    found_legal parts history number machine (projected parts history machine lawful) (history_behind_grant history number) refl

-- one cube gives one trace
same_alone : (cube cube' : Cube) (t t' : List Entry) → IsAlone cube t → IsAlone cube' t' → AreSame cube cube' t t'
same_alone cube cube' t t' alone alone' cubes calls order =
    let both : Some t ≡ Some t' =
    sym alone ∙ ap₂ (λ calls order. solo cube (opening cube) calls order) calls order ∙ ap (λ cube. solo cube (opening cube) (host_wishes t') (actors t')) cubes ∙ alone' in
    cc

found_same : (parts parts' : MachineParts) (history history' : List Entry) (number number' : ℕ) → IsProjectedHistory parts history → IsProjectedHistory parts' history'
    → (found found' : Option (CubeGrant × List Entry)) → history_behind_grant history number ≡ found → history_behind_grant history' number' ≡ found'
    → IfSome found (λ found. IfSome found' (λ found'.
    AreSame (cube_of parts.images found.0) (cube_of parts'.images found'.0) (view history number) (view history' number')))
found_same parts parts' history history' number number' all all' None found' is is' = tt
found_same parts parts' history history' number number' all all' (Some found) None is is' = tt
found_same parts parts' history history' number number' all all' (Some found) (Some found') is is' =
    same_alone (cube_of parts.images found.0) (cube_of parts'.images found'.0) (view history number) (view history' number')
    (found_alone parts history number all (Some found) is) (found_alone parts' history' number' all' (Some found') is')

pub same_trace : ViewsAreSame
same_trace parts parts' history history' number number' machine machine' lawful lawful' =
    found_same parts parts' history history' number number' (projected parts history machine lawful) (projected parts' history' machine' lawful')
    (history_behind_grant history number) (history_behind_grant history' number') refl refl
