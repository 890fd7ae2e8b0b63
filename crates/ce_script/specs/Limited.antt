-- That a script keeps the limits of a script is a proposition: no two proofs of it differ.
use Rattle.std.specs.Prelude.{◌≡◌, ℕ, ◌≤◌, List, [], ◌∷◌, None, IfSome, IsTrue, bytes_eq, length}
use Rattle.std.specs.List.{AllByRecursion, IsDistinct}
use Rattle.std.proofs.Common.{refl, sym, ap, ◌∙◌, subst}
use Rattle.std.proofs.Math.Path.{path_j'}
use Rattle.std.proofs.Props.{props}
use Rattle.ce_model.specs.Limits.{greatest_dim}
use Rattle.ce_host.specs.declared.command.Command.{Command}
use Rattle.ce_host.specs.declared.command.Command.TheVariants.{Getcube, Peek, Freecube, Spawn, Kill, Send, Run, Recv, Dump, Trace}
use Rattle.ce_script.specs.declared.script.Script.{Script}
use Rattle.ce_script.specs.Names.{is_name}
use Rattle.ce_script.specs.Bounds.{IsCommandWithin, IsUserCommandWithin, AreNames, IsSilent, IsWithinLimits}

-- ---- a list has no members

abbrev IsEmpty : {A : Type 0} → List A → Type 0
IsEmpty [] = Unit {0}
IsEmpty (x ∷ xs) = ⊥

is_empty : {A : Type 0} {xs : List A} → xs ≡ [] → IsEmpty xs
is_empty e = subst IsEmpty (sym e) tt

empty_is : {A : Type 0} (xs : List A) → IsEmpty xs → xs ≡ []
empty_is [] none = refl
empty_is (x ∷ xs) none = absurd none

IsEmpty-prop : {A : Type 0} (xs : List A) → IsProp (IsEmpty xs)
IsEmpty-prop [] = hlevel props
IsEmpty-prop (x ∷ xs) = hlevel props

back : {A : Type 0} {xs : List A} (e : xs ≡ []) → empty_is xs (is_empty e) ≡ e
unfolding empty_is
back e = path_j' (λ xs e. empty_is xs (is_empty e) ≡ e) refl e

empty-prop : {A : Type 0} (xs : List A) → IsProp (xs ≡ [])
empty-prop xs =
    λ a b. sym (back a) ∙ ap (empty_is xs) (IsEmpty-prop xs (is_empty a) (is_empty b)) ∙ back b

-- ---- the parts

below : (m n : ℕ) → IsProp (m ≤ n)
below m n = hlevel props

IsCommandWithin-prop : (images : ℕ) (command : Command) → IsProp (IsCommandWithin images command)
IsCommandWithin-prop images (Getcube dim) = hlevel props
IsCommandWithin-prop images Peek = hlevel props
IsCommandWithin-prop images Freecube = hlevel props
IsCommandWithin-prop images (Spawn image to) = hlevel props
IsCommandWithin-prop images (Kill to) = hlevel props
IsCommandWithin-prop images (Send to bytes) = hlevel props
IsCommandWithin-prop images (Run count) = hlevel props
IsCommandWithin-prop images (Recv count) = hlevel props
IsCommandWithin-prop images (Dump place) = hlevel props
IsCommandWithin-prop images Trace = hlevel props

AreNames-prop : (names : List (List ℕ)) → IsProp (AreNames names)
AreNames-prop names = λ a b i. record {
  each = each-prop a.each b.each i;
  distinct = distinct-prop a.distinct b.distinct i;
}
  where
    each-prop : IsProp (AllByRecursion (λ name. IsTrue (is_name name)) names)
    each-prop = hlevel props

    distinct-prop : IsProp (IsDistinct bytes_eq names)
    distinct-prop = hlevel props

IsSilent-prop : (script : Script) → IsProp (IsSilent script)
IsSilent-prop script =
    hlevel (props, empty-prop script.images, empty-prop script.users, empty-prop script.commands)

-- ---- all of them

pub IsWithinLimits-prop : {script : Script} → IsProp (IsWithinLimits script)
IsWithinLimits-prop {script} = λ a b i. record {
  dim = dim-prop a.dim b.dim i;
  users = below _ _ a.users b.users i;
  user_names = AreNames-prop _ a.user_names b.user_names i;
  images = below _ _ a.images b.images i;
  image_names = AreNames-prop _ a.image_names b.image_names i;
  commands = commands-prop a.commands b.commands i;
  machine = machine-prop a.machine b.machine i;
}
  where
    dim-prop : IsProp (IfSome script.dim (λ dim. dim ≤ greatest_dim))
    dim-prop = hlevel props

    commands-prop : IsProp
        (AllByRecursion
        (IsUserCommandWithin (length script.users) (length script.images)) script.commands)
    commands-prop = hlevel (props, IsCommandWithin-prop)

    machine-prop : IsProp (script.dim ≡ None → IsSilent script)
    machine-prop = hlevel (props, IsSilent-prop script)
