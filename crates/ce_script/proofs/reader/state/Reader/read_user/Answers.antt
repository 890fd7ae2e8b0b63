use Rattle.std.proofs.Common.{◌∙◌, ◌∷◌, [], length, sym, ap, subst, arith, List, ℕ, Some}
use Rattle.std.proofs.lemmas.List.{length-append}
use Rattle.ce_model.specs.Limits.{greatest_users_lem}
use Rattle.ce_script.specs.declared.reader.so_far.ScriptSoFar.{ScriptSoFar}
use Rattle.ce_script.specs.Places.{IsIndexOf}
use Rattle.ce_script.proofs.Indexing.{index_more}
use Rattle.ce_script.proofs.Judging.{known_user, user_over, user_fits, known_speaks, new_speaks}
use Rattle.ce_script.proofs.reader.state.Reader.read_user.Goals as goal

pub returns-in-Some : goal.returns-in-Some
returns-in-Some c =
    let so_far = c.args.self.so_far in
    let found = sym (c.args.self.indexed.users c.args.word.now) ∙ sym c.meaning.ensures ∙ c.in-Some.is in (
      known_user so_far.script.users c.args.word.now c.in-Some.number c.args.self.few.users (sym c.if-not-is_name.ensures) found,
      known_speaks so_far c.args.word.now c.in-Some.number found,
    )

pub overflow_cast-number : goal.overflow_cast-number
overflow_cast-number c = omega (arith, c.len-number.ensures, c.args.self.few.users, greatest_users_lem)

pub returns-then-number-ge-GREATEST_USERS : goal.returns-then-number-ge-GREATEST_USERS
returns-then-number-ge-GREATEST_USERS c =
    let found = sym (c.args.self.indexed.users c.args.word.now) ∙ sym c.meaning.ensures ∙ c.in_default.is in
    user_over c.args.self.so_far.script.users c.args.word.now (sym c.if-not-is_name.ensures) found (omega (arith, c.len-number.ensures))

pub invariant_of-self-2 : goal.invariant_of-self-2
invariant_of-self-2 c =
    let so_far = c.args.self.so_far in
    let found = sym (c.args.self.indexed.users c.args.word.now) ∙ sym c.meaning.ensures ∙ c.in_default.is in
    let users = rw c.in_ok-name.ensures at c.in_ok-push.ensures.ok in
    record {
      few = record {
        users = omega (arith, ap length users, length-append so_far.script.users (c.args.word.now ∷ []), c.len-number.ensures, greatest_users_lem);
        images = c.args.self.few.images;
      };
      indexed = record {
        users =
            subst (IsIndexOf c.define.new.self) (sym users)
            (index_more c.args.self.indexes.users c.define.new.self so_far.script.users c.args.word.now c.len-number.result c.args.self.indexed.users found c.len-number.ensures c.in_ok-define.ensures);
        images = c.args.self.indexed.images;
      };
    }

pub returns : goal.returns
returns c =
    let so_far = c.args.self.so_far in
    let found = sym (c.args.self.indexed.users c.args.word.now) ∙ sym c.meaning.ensures ∙ c.in_default.is in
    let users = rw c.in_ok-name.ensures at c.in_ok-push.ensures.ok in
    let made : List (List ℕ) → ScriptSoFar = λ names. record { script = record { dim = so_far.script.dim; images = so_far.script.images; users = names; commands = so_far.script.commands }; user = Some c.len-number.result } in (
      user_fits so_far.script.users c.args.word.now (sym c.if-not-is_name.ensures) found (omega (arith, c.len-number.ensures)),
      ap made users ∙ new_speaks so_far c.args.word.now c.len-number.result found c.len-number.ensures,
    )
