-- The rules of an access, by the two places where it can be made.
use Rattle.std.proofs.Common.{◌≡◌, ℕ, ◌-◌, ◌%◌, true, false, nat_lt, ◌==◌, if◌then◌else◌, List, Option, Some, None, Result, Ok, Err, OnOk, IfErr, refl, ap, ◌∙◌, sym, inl, inr}
use Rattle.std.proofs.lemmas.Bool.{cases_Bool}
use Rattle.rv_model.specs.declared.stop.Stop.{Stop}
use Rattle.rv_model.specs.declared.stop.Stop.TheVariants.{Misaligned, Unmapped}
use Rattle.rv_model.specs.declared.limits.TheConstants.{PRIVATE_START}
use Rattle.rv_model.specs.LittleEndian.{number_at, with_number_at}
use Rattle.rv_model.specs.Private.{is_private, checked_access}
use Rattle.ce_model.specs.Limits.{window_base}
use Rattle.ce_model.specs.Blocks.{Block}
use Rattle.ce_model.specs.Space.{Space, private_site, access_site, site_in, number_in, with_number_in, result_map, load_result, store_result}
use Rattle.rk_process.specs.Windows.{is_within_block, number_in_window, window_at_address, stored_windows}

module _ (space : Space) (a size : ℕ) where
  spot-private : (a % size == 0) ≡ true → is_private a ≡ true → access_site space a size ≡ Ok (private_site (a - PRIVATE_START))
  unfolding access_site
  spot-private aligned private = rw (aligned, private) refl

  spot-window : (a % size == 0) ≡ true → is_private a ≡ false → access_site space a size ≡ site_in (window_at_address space.windows a) a size
  unfolding access_site
  spot-window aligned elsewhere = rw (aligned, elsewhere) (elim (cases_Bool (nat_lt a window_base)) [
    | inl t ↦ rw t refl
    | inr f ↦ rw f refl
  ])

  spot-misaligned : (a % size == 0) ≡ false → access_site space a size ≡ Err (Misaligned a)
  unfolding access_site
  spot-misaligned f = rw f refl

  number-spot : (window : Option (Option Block)) → number_in_window window a size ≡ result_map (number_in space size) (site_in window a size)
  number-spot None = refl
  number-spot (Some None) = refl
  number-spot (Some (Some block)) = elim (cases_Bool (is_within_block block a size)) [
    | inl t ↦ rw t refl
    | inr f ↦ rw f refl
  ]

  left-spot : (n : ℕ) (window : Option (Option Block)) → window ≡ window_at_address space.windows a
      → result_map (λ windows. record space { windows = windows }) (stored_windows space.windows a size n) ≡ result_map (with_number_in space size n) (site_in window a size)
  left-spot n None e = rw (← e) refl
  left-spot n (Some None) e = rw (← e) refl
  left-spot n (Some (Some block)) e = rw (← e) (elim (cases_Bool (is_within_block block a size)) [
    | inl t ↦ rw t refl
    | inr f ↦ rw f refl
  ])

  -- an access of private memory that is made, or refused
  module _ {X : Type 0} (made : ℕ → X) where
    made-private : (x : X) → checked_access a size made ≡ Ok x → (a % size == 0 ≡ true) × (is_private a ≡ true) × (x ≡ made (a - PRIVATE_START))
    made-private x e = elim (cases_Bool (a % size == 0)) [
      | inr f ↦ (let bad : ◌≡◌ {A = Result X Stop} (Err (Misaligned a)) (Ok x) = rw f refl ∙ e in absurd (cc))
      | inl t ↦ elim (cases_Bool (is_private a)) [
        | inr q ↦ (let bad : ◌≡◌ {A = Result X Stop} (Err (Unmapped a)) (Ok x) = rw (t, q) refl ∙ e in absurd (cc))
        | inl p ↦ (let good : ◌≡◌ {A = Result X Stop} (Ok (made (a - PRIVATE_START))) (Ok x) = rw (t, p) refl ∙ e in (t, p, cc))
      ]
    ]

    refused-elsewhere : (cause : Stop) → (a % size == 0) ≡ true → checked_access a size made ≡ Err cause → is_private a ≡ false
    refused-elsewhere cause t e = elim (cases_Bool (is_private a)) [
      | inl p ↦ (let bad : ◌≡◌ {A = Result X Stop} (Ok (made (a - PRIVATE_START))) (Err cause) = rw (t, p) refl ∙ e in absurd (cc))
      | inr q ↦ q
    ]

    refused-misaligned : (cause : Stop) → (a % size == 0) ≡ false → checked_access a size made ≡ Err cause → cause ≡ Misaligned a
    refused-misaligned cause f e =
        let same : ◌≡◌ {A = Result X Stop} (Err (Misaligned a)) (Err cause) = rw f refl ∙ e in cc

  -- a load is made in private memory, or else where its window says; one that isn't at a multiple
  -- of its size is refused
  pub loaded-private : (n : ℕ) → checked_access a size (λ offset. number_at space.private offset size) ≡ Ok n → Ok n ≡ load_result space a size
  loaded-private n e =
      let is = made-private (λ offset. number_at space.private offset size) n e in
      ap Ok is.2 ∙ ap (result_map (number_in space size)) (sym (spot-private is.0 is.1))

  loaded-window : (cause : Stop) → (a % size == 0) ≡ true → checked_access a size (λ offset. number_at space.private offset size) ≡ Err cause
      → number_in_window (window_at_address space.windows a) a size ≡ load_result space a size
  loaded-window cause t e =
      number-spot (window_at_address space.windows a)
      ∙ ap (result_map (number_in space size)) (sym (spot-window t (refused-elsewhere (λ offset. number_at space.private offset size) cause t e)))

  loaded-misaligned : (cause : Stop) → (a % size == 0) ≡ false → checked_access a size (λ offset. number_at space.private offset size) ≡ Err cause
      → Err cause ≡ load_result space a size
  loaded-misaligned cause f e =
      ap Err (refused-misaligned (λ offset. number_at space.private offset size) cause f e) ∙ ap (result_map (number_in space size)) (sym (spot-misaligned f))

  -- so is a store
  pub stored-private : (n : ℕ) (private : List ℕ) → checked_access a size (λ offset. with_number_at space.private offset size n) ≡ Ok private
      → store_result space a size n ≡ Ok (record space { private = private })
  stored-private n private e =
      let is = made-private (λ offset. with_number_at space.private offset size n) private e in
      ap (result_map (with_number_in space size n)) (spot-private is.0 is.1) ∙ ap (λ bytes. Ok (record space { private = bytes })) (sym is.2)

  stored-window : (n : ℕ) (cause : Stop) → (a % size == 0) ≡ true → checked_access a size (λ offset. with_number_at space.private offset size n) ≡ Err cause
      → store_result space a size n ≡ result_map (λ windows. record space { windows = windows }) (stored_windows space.windows a size n)
  stored-window n cause t e =
      ap (result_map (with_number_in space size n)) (spot-window t (refused-elsewhere (λ offset. with_number_at space.private offset size n) cause t e))
      ∙ sym (left-spot n (window_at_address space.windows a) refl)

  stored-misaligned : (n : ℕ) (cause : Stop) → (a % size == 0) ≡ false → checked_access a size (λ offset. with_number_at space.private offset size n) ≡ Err cause
      → store_result space a size n ≡ Err cause
  stored-misaligned n cause f e =
      ap (result_map (with_number_in space size n)) (spot-misaligned f) ∙ ap Err (sym (refused-misaligned (λ offset. with_number_at space.private offset size n) cause f e))

-- a load or a store that private memory refused is made where its window says, if it is at a
-- multiple of its size
module _ (space : Space) (a size : ℕ) (cause : Stop) where
  pub loaded-elsewhere : checked_access a size (λ offset. number_at space.private offset size) ≡ Err cause
      → (if a % size == 0 then number_in_window (window_at_address space.windows a) a size else Err cause) ≡ load_result space a size
  loaded-elsewhere e = elim (cases_Bool (a % size == 0)) [
    | inl t ↦ rw t (loaded-window space a size cause t e)
    | inr f ↦ rw f (loaded-misaligned space a size cause f e)
  ]

  pub stored-elsewhere : (n : ℕ) → checked_access a size (λ offset. with_number_at space.private offset size n) ≡ Err cause
      → store_result space a size n ≡ result_map (λ windows. record space { windows = windows }) (if a % size == 0 then stored_windows space.windows a size n else Err cause)
  stored-elsewhere n e = elim (cases_Bool (a % size == 0)) [
    | inl t ↦ rw t (stored-window space a size n cause t e)
    | inr f ↦ rw f (stored-misaligned space a size n cause f e)
  ]

-- what a store above private memory comes to, from what it leaves in the windows
module _ (space : Space) (stored : Result Space Stop) (left : Result (List (Option Block)) Stop)
    (made : stored ≡ result_map (λ windows. record space { windows = windows }) left) where
  pub stored-then : (private : List ℕ) (after : List (Option Block)) → private ≡ space.private → (r : Result (Unit {0}) Stop) → OnOk r (left ≡ Ok after)
      → OnOk r (stored ≡ Ok (record { private = private; windows = after }))
  stored-then private after same (Err cause) h = tt
  stored-then private after same (Ok done) h =
      made ∙ ap (result_map (λ windows. record space { windows = windows })) h ∙ ap (λ bytes. Ok (record { private = bytes; windows = after })) (sym same)

  pub refused-then : (r : Result (Unit {0}) Stop) → IfErr r (λ cause. left ≡ Err cause) → IfErr r (λ cause. stored ≡ Err cause)
  refused-then (Ok done) h = tt
  refused-then (Err cause) h = made ∙ ap (result_map (λ windows. record space { windows = windows })) h
