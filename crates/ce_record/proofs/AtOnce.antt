-- Commands that make no entry, and the one that gives a cube back.
use Rattle.std.proofs.Common.{◌≡◌, ℕ, Bool, true, false, List, [], length, Option, Some, None, IsTrue, option_map, refl, ap, sym, subst}
use Rattle.std.specs.List.{AllByRecursion}
use Rattle.ce_model.specs.declared.topology.Place.{Place}
use Rattle.ce_model.specs.declared.entry.Entry.{Entry}
use Rattle.ce_model.specs.Node.{is_place, process_at}
use Rattle.ce_model.specs.Cube.{opening, hoststore, rest}
use Rattle.ce_model.specs.Views.{view}
use Rattle.ce_model.specs.Machine.{MachineParts, HeldCube, after, cube_held_by}
use Rattle.ce_host.specs.declared.command.Command.{Command}
use Rattle.ce_host.specs.declared.command.Command.TheVariants.{Getcube, Peek, Freecube, Spawn, Kill, Send, Dump, Trace}
use Rattle.ce_host.specs.declared.answer.Answer.{Answer}
use Rattle.ce_host.specs.declared.answer.Answer.TheVariants.{NoCube, Held, Freed, NoPlace, NoStore, State, Entries}
use Rattle.ce_script.specs.Rounds.{RoundKind}
use Rattle.ce_script.specs.Moments.{Holding, later_moments}
use Rattle.ce_script.specs.Commands.{IsCommand, IsAtPlace, IsSend, freecube_entries}
use Rattle.ce_script.specs.Doings.{IsRefusedIfGetcube}
use Rattle.ce_record.specs.Requests.{wants_cube, command_place}
use Rattle.ce_record.specs.HeldCubes.{cube_holding, history_holding, granted_cube}
use Rattle.ce_record.specs.Run.{next_doing, IsNextCommand}
use Rattle.ce_record.proofs.HeldCubes.{own-user}
use Rattle.ce_record.specs.Laws.{NoCubeIsNext}

-- a command is next by what its user holds
pub next-by : (kind : RoundKind) (parts : MachineParts) (history : List Entry) (user : ℕ) (held : Option Holding) (command : Command) (answer : Answer) (made : List Entry)
    → history_holding history user ≡ held → AllByRecursion (λ entry. entry.user ≡ user) made
    → IsCommand kind parts user held command answer (later_moments history made) → IsRefusedIfGetcube parts held (next_doing history command answer made)
    → IsNextCommand kind parts history user command answer made
next-by kind parts history user held command answer made is own does refused = record {
  own = own;
  does = subst (λ held. IsCommand kind parts user held command answer (later_moments history made)) (sym is) does;
  refused = subst (λ held. IsRefusedIfGetcube parts held (next_doing history command answer made)) (sym is) refused;
}

-- so is one that makes no entry
at-once : (kind : RoundKind) (parts : MachineParts) (history : List Entry) (user : ℕ) (held : Option Holding) (command : Command) (answer : Answer)
    → history_holding history user ≡ held → IsCommand kind parts user held command answer [] → IsRefusedIfGetcube parts held (next_doing history command answer [])
    → IsNextCommand kind parts history user command answer []
at-once kind parts history user held command answer is does refused =
    next-by kind parts history user held command answer [] is tt does refused

pub no_cube : NoCubeIsNext
no_cube kind parts history user command none wants = by_command command wants
  where
    is : history_holding history user ≡ None
    is = ap (option_map (cube_holding history)) none

    by_command : (command : Command) → IsTrue (wants_cube command) → IsNextCommand kind parts history user command NoCube []
    by_command (Getcube dim) wants = absurd (cc)
    by_command Peek wants = absurd (cc)
    by_command other wants = at-once kind parts history user None other NoCube is (refl, refl) tt

-- ---- of who holds a cube

-- a command to what is a place does what it must there, and to what is none nothing
pub at-place : (dim : ℕ) (b : Bool) (to : Place) (answer : Answer) (segment : List Entry) (P : Type 0) → is_place dim to ≡ b → IsAtPlace b answer segment P
    → IsAtPlace (is_place dim to) answer segment P
at-place dim b to answer segment P place is = subst (λ b. IsAtPlace b answer segment P) (sym place) is

module _ (kind : RoundKind) (parts : MachineParts) (history : List Entry) (user : ℕ) (cube : HeldCube) (holds : cube_held_by (after history) user ≡ Some cube) where
  -- by what is held, a command is next
  pub holder-next : (command : Command) (answer : Answer) (made : List Entry) → AllByRecursion (λ entry. entry.user ≡ user) made
      → IsCommand kind parts user (Some (cube_holding history cube)) command answer (later_moments history made)
      → IsRefusedIfGetcube parts (Some (cube_holding history cube)) (next_doing history command answer made)
      → IsNextCommand kind parts history user command answer made
  holder-next command answer made =
      next-by kind parts history user (Some (cube_holding history cube)) command answer made (ap (option_map (cube_holding history)) holds)

  now : (command : Command) (answer : Answer) → IsCommand kind parts user (Some (cube_holding history cube)) command answer []
      → IsRefusedIfGetcube parts (Some (cube_holding history cube)) (next_doing history command answer []) → IsNextCommand kind parts history user command answer []
  now command answer = at-once kind parts history user (Some (cube_holding history cube)) command answer (ap (option_map (cube_holding history)) holds)

  pub held : (dim : ℕ) → IsNextCommand kind parts history user (Getcube dim) Held []
  held dim =
      now (Getcube dim) Held (refl, refl)
      (record { held = (λ e. refl, λ some. refl); none = (λ e. absurd (cc), λ none. let no = none.0 in absurd (cc)) })

  at_to : (at to : Place) → Some at ≡ Some to → is_place cube.grant.dim to ≡ false → is_place cube.grant.dim at ≡ false
  at_to at to is place = let same : at ≡ to = cc in subst (λ place. is_place cube.grant.dim place ≡ false) (sym same) place

  abbrev state_at : Place → Answer
  state_at at = State (process_at (rest (granted_cube parts cube) (opening (granted_cube parts cube)) at.node (view history cube.number)) at.pid).status

  nowhere : (to : Place) → is_place cube.grant.dim to ≡ false → (P : Type 0) → IsAtPlace (is_place cube.grant.dim to) NoPlace [] P
  nowhere to place P = at-place cube.grant.dim false to NoPlace [] P place (refl, refl)

  pub no_place : (command : Command) (to : Place) → command_place command ≡ Some to → is_place cube.grant.dim to ≡ false → IsNextCommand kind parts history user command NoPlace []
  no_place (Spawn image at) to is place = now (Spawn image at) NoPlace (nowhere at (at_to at to is place) _) tt
  no_place (Kill at) to is place = now (Kill at) NoPlace (nowhere at (at_to at to is place) _) tt
  no_place (Send at bytes) to is place = now (Send at bytes) NoPlace (nowhere at (at_to at to is place) _) tt
  no_place (Dump at) to is place = now (Dump at) NoPlace (nowhere at (at_to at to is place) _) tt
  no_place other to is place = absurd (cc)

  pub no_store : (to : Place) (bytes : List ℕ) → is_place cube.grant.dim to ≡ true
      → hoststore (opening (granted_cube parts cube)) (view history cube.number) ≡ [] → IsNextCommand kind parts history user (Send to bytes) NoStore []
  no_store to bytes place empty =
      now (Send to bytes) NoStore
      (at-place cube.grant.dim true to NoStore [] _ place (subst (λ store. IsSend cube.grant.user store to bytes NoStore []) (sym empty) (refl, refl))) tt

  pub dump : (at : Place) → is_place cube.grant.dim at ≡ true → IsNextCommand kind parts history user (Dump at) (state_at at) []
  dump at place = now (Dump at) (state_at at) (at-place cube.grant.dim true at (state_at at) [] _ place (refl, refl)) tt

  pub trace : IsNextCommand kind parts history user Trace (Entries (length (view history cube.number))) []
  trace = now Trace (Entries (length (view history cube.number))) (refl, refl) tt

  pub freecube_next : IsNextCommand kind parts history user Freecube Freed (freecube_entries user)
  freecube_next = holder-next Freecube Freed (freecube_entries user) (refl, (refl, tt)) (refl, ap freecube_entries (sym (own-user history user cube holds))) tt
