-- The worked row in which no cube of dimension 1 is free, run command by command: its record is
-- legal and serial.
use Rattle.std.proofs.Common.{◌≡◌, ℕ, List, [], ◌∷◌, ◌++◌, take, drop, Some, None, refl, sym, subst, lit<, lit≤}
use Rattle.std.specs.List.{IsDistinct}
use Rattle.std.proofs.lemmas.List.{take-append-drop}
use Rattle.ce_model.specs.declared.topology.TheConstants.{HOST}
use Rattle.ce_model.specs.declared.entry.Entry.{Entry}
use Rattle.ce_model.specs.declared.entry.What.{What}
use Rattle.ce_model.specs.declared.entry.What.TheVariants as whats
use Rattle.ce_model.specs.Limits.{greatest_dim, greatest_users, greatest_images}
use Rattle.ce_model.specs.Subcubes.{extract, deposit, subcubes, first_free_subcube}
use Rattle.ce_model.specs.Views.{view}
use Rattle.ce_model.specs.Machine.{MachineParts, IsMachine, IsLawful, IsLawfulEntry, HeldCube, after, cube_held_by, Request, getcube, peek, drain, freecube, new_cube}
use Rattle.ce_model.proofs.Walked.{each_of_front}
use Rattle.ce_host.specs.declared.command.Command.{Command}
use Rattle.ce_host.specs.declared.command.Command.TheVariants.{Getcube, Peek, Freecube}
use Rattle.ce_host.specs.declared.answer.Answer.{Answer}
use Rattle.ce_host.specs.declared.answer.Answer.TheVariants as answers
use Rattle.ce_text.specs.Name as text
use Rattle.ce_script.specs.Names.{is_name, name_room}
use Rattle.ce_script.specs.Bounds.{IsWithinLimits}
use Rattle.ce_script.specs.Rounds.{serial}
use Rattle.ce_script.specs.Doings.{Doing}
use Rattle.ce_script.specs.Legal.{machine_of, IsLegal}
use Rattle.ce_script.specs.Serial.{IsSerial}
use Rattle.ce_script.proofs.Rows.{entry_of, block, subcube}
use Rattle.ce_script.proofs.RowNoFit.{grant, the_script, the_record}
use Rattle.ce_record.specs.Requests.{IsMadeByRequest, command_request, entry_reply}
use Rattle.ce_record.specs.Run.{IsRunSoFar, next_doing, IsNextCommand}
use Rattle.ce_record.proofs.AtOnce.{freecube_next}
use Rattle.ce_record.proofs.Requests.{asked}
use Rattle.ce_record.proofs.Run.{run_begins, run_goes_on}
use Rattle.ce_record.proofs.Legal.{run_is_legal}

abbrev machine : MachineParts
machine = machine_of the_script

is_machine : IsMachine machine
unfolding greatest_dim greatest_users greatest_images
is_machine = record { dim = lit≤ tt; some_user = lit< tt; users = lit≤ tt; images = lit≤ tt }

-- the history up to an entry
abbrev at : ℕ → List Entry
at count = take count the_record.history

-- ---- what the machine is asked

a_asks : IsMadeByRequest machine (at 0) 0 (getcube 0) (whats.Getcube 0 (Some (subcube 0 0)))
unfolding after first_free_subcube subcubes extract deposit greatest_dim
a_asks = record { fits = (lit< tt, (refl, lit≤ tt, refl)); answer = refl }

b_asks : IsMadeByRequest machine (at 1) 1 (getcube 0) (whats.Getcube 0 (Some (subcube 0 1)))
unfolding after first_free_subcube subcubes extract deposit greatest_dim
b_asks = record { fits = (lit< tt, (refl, lit≤ tt, refl)); answer = refl }

c_asks : IsMadeByRequest machine (at 2) 2 (getcube 0) (whats.Getcube 0 (Some (subcube 0 2)))
unfolding after first_free_subcube subcubes extract deposit greatest_dim
c_asks = record { fits = (lit< tt, (refl, lit≤ tt, refl)); answer = refl }

a_drains : IsMadeByRequest machine (at 3) 0 drain whats.Drain
unfolding after
a_drains = record { fits = (lit< tt, (refl, refl)); answer = refl }

a_frees : IsMadeByRequest machine (at 4) 0 freecube whats.Freecube
unfolding after
a_frees = record { fits = (lit< tt, (refl, refl)); answer = refl }

d_asks : IsMadeByRequest machine (at 5) 3 (getcube 1) (whats.Getcube 1 None)
unfolding after first_free_subcube subcubes extract deposit greatest_dim
d_asks = record { fits = (lit< tt, (refl, lit≤ tt, refl)); answer = refl }

d_peeks : IsMadeByRequest machine (at 6) 3 peek whats.Peek
d_peeks = record { fits = (lit< tt, refl); answer = refl }

lawful_entry : (history : List Entry) (user : ℕ) (request : Request) (what : What) → IsMadeByRequest machine history user request what
    → IsLawfulEntry machine history (entry_of user HOST what)
lawful_entry history user request what asked = record { request = request; fits = asked.fits; answer = asked.answer }

is_lawful : IsLawful machine the_record.history
is_lawful = (
  lawful_entry (at 0) 0 _ _ a_asks,
  (
    lawful_entry (at 1) 1 _ _ b_asks,
    (
      lawful_entry (at 2) 2 _ _ c_asks,
      (
        lawful_entry (at 3) 0 _ _ a_drains,
        (lawful_entry (at 4) 0 _ _ a_frees, (lawful_entry (at 5) 3 _ _ d_asks, (lawful_entry (at 6) 3 _ _ d_peeks, tt))),
      ),
    ),
  ),
)

lawful_at : (count : ℕ) → IsLawful machine (at count)
lawful_at count =
    each_of_front (IsLawfulEntry machine) [] (at count) (drop count the_record.history)
    (subst (IsLawful machine) (sym (take-append-drop count the_record.history)) is_lawful)

-- ---- the run

-- what was done, command by command
abbrev all : ℕ → List (ℕ × Doing)
all count = take count (
    (0, next_doing (at 0) (Getcube 0) (answers.Granted (subcube 0 0)) (entry_of 0 HOST (whats.Getcube 0 (Some (subcube 0 0))) ∷ []))
    ∷ (1, next_doing (at 1) (Getcube 0) (answers.Granted (subcube 0 1)) (entry_of 1 HOST (whats.Getcube 0 (Some (subcube 0 1))) ∷ []))
    ∷ (2, next_doing (at 2) (Getcube 0) (answers.Granted (subcube 0 2)) (entry_of 2 HOST (whats.Getcube 0 (Some (subcube 0 2))) ∷ []))
    ∷ (0, next_doing (at 3) Freecube answers.Freed (entry_of 0 HOST whats.Drain ∷ entry_of 0 HOST whats.Freecube ∷ []))
    ∷ (3, next_doing (at 5) (Getcube 1) answers.None (entry_of 3 HOST (whats.Getcube 1 None) ∷ []))
    ∷ (3, next_doing (at 6) Peek (answers.Peeked (record { free = 2; grants = grant 1 ∷ grant 2 ∷ [] })) (entry_of 3 HOST whats.Peek ∷ []))
    ∷ [])

-- a command that asks, where so many commands and so many entries were made
goes_on : (done made user : ℕ) (command : Command) (request : Request) (what : What) (answer : Answer) → IsRunSoFar serial machine (at made) (all done)
    → command_request (block 0 0) command ≡ Some request → IsMadeByRequest machine (at made) user request what → entry_reply machine (after (at made)) what ≡ Some answer
    → IsRunSoFar serial machine (at made ++ entry_of user HOST what ∷ [])
    (all done ++ (user, next_doing (at made) command answer (entry_of user HOST what ∷ [])) ∷ [])
goes_on done made user command request what answer run is asks replied =
    run_goes_on serial machine (at made) (all done) user command answer (entry_of user HOST what ∷ []) is_machine (lawful_at made) run
    (asked serial machine (at made) user command (block 0 0) request what answer is_machine (lawful_at made) is asks replied)

granted : IsRunSoFar serial machine (at 3) (all 3)
granted =
    goes_on 2 2 2 (Getcube 0) _ _ _
    (goes_on 1 1 1 (Getcube 0) _ _ _
    (goes_on 0 0 0 (Getcube 0) _ _ _ (run_begins serial machine) refl a_asks refl)
    refl b_asks refl) refl c_asks refl

-- a's cube, which is given back
a_cube : HeldCube
a_cube = new_cube 0 (record { user = 0; dim = 0; sub = subcube 0 0 })

a_holds : cube_held_by (after (at 3)) 0 ≡ Some a_cube
unfolding after a_cube
a_holds = refl

freed : IsRunSoFar serial machine (at 5) (all 4)
freed =
    run_goes_on serial machine (at 3) (all 3) 0 Freecube answers.Freed (entry_of 0 HOST whats.Drain ∷ entry_of 0 HOST whats.Freecube ∷ []) is_machine (lawful_at 3) granted
    (freecube_next serial machine (at 3) 0 a_cube a_holds)

ran : IsRunSoFar serial machine the_record.history (all 6)
unfolding after extract deposit greatest_dim
ran = goes_on 5 6 3 Peek _ _ _ (goes_on 4 5 3 (Getcube 1) _ _ _ freed refl d_asks refl) refl d_peeks refl

is_within : IsWithinLimits the_script
unfolding greatest_dim greatest_users greatest_images IsDistinct is_name name_room text.is_name
is_within = record {
  dim = lit≤ tt;
  users = lit≤ tt;
  user_names = record { each = (refl, (refl, (refl, (refl, tt)))); distinct = ((refl, (refl, (refl, tt))), ((refl, (refl, tt)), ((refl, tt), (tt, tt)))) };
  images = lit≤ tt;
  image_names = record { each = tt; distinct = tt };
  commands = ((lit< tt, lit≤ tt), ((lit< tt, lit≤ tt), ((lit< tt, lit≤ tt), ((lit< tt, tt), ((lit< tt, lit≤ tt), ((lit< tt, tt), tt))))));
  machine = λ none. absurd (cc);
}

-- the record of the row is legal and serial
pub row : IsLegal serial the_script the_record × IsSerial the_script the_record
row = run_is_legal the_script the_record (all 6) is_within is_lawful ran (record { commands = refl; users = refl; replies = (refl, (refl, (refl, (refl, tt)))) })

-- ---- what is no next command

-- d isn't told that it holds a cube, nor that its getcube found none before any cube was granted
pub held_is_not_next : IsNextCommand serial machine (at 5) 3 (Getcube 1) answers.Held [] → ⊥
unfolding after
held_is_not_next next = let holds = next.refused.held.0 refl in absurd (cc)

pub none_is_not_next : IsNextCommand serial machine (at 0) 3 (Getcube 1) answers.None (entry_of 3 HOST (whats.Getcube 1 None) ∷ []) → ⊥
unfolding after first_free_subcube subcubes extract deposit greatest_dim
none_is_not_next next = let none = (next.refused.none.0 refl).1 in absurd (cc)

-- a cube isn't given back without its drain
pub freed_is_not_next : IsNextCommand serial machine (at 3) 0 Freecube answers.Freed (entry_of 0 HOST whats.Freecube ∷ []) → ⊥
unfolding after view
freed_is_not_next next = let entries = next.does.1 in absurd (cc)
