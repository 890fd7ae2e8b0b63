-- The moments of a history that grows, and of its users.
use Rattle.std.proofs.Common.{◌≡◌, ◌≢◌, ℕ, Bool, true, false, ◌==◌, if◌then◌else◌, List, [], ◌∷◌, ◌++◌, map, filter, flat_map, refl, ap, sym, ◌∙◌, append-nil}
use Rattle.std.specs.List.{AllByRecursion}
use Rattle.std.proofs.lemmas.Bool.{eq-eqb, ne_eqb}
use Rattle.std.proofs.lemmas.List.{map-append}
use Rattle.std.proofs.lemmas.List.Elements.{filter-append}
use Rattle.std.proofs.lemmas.Grind.{flat_map-append}
use Rattle.ce_model.specs.declared.entry.Entry.{Entry}
use Rattle.ce_model.proofs.Walked.{one_further}
use Rattle.ce_solo.proofs.Lists.{all-weaker, filter-kept}
use Rattle.ce_script.specs.Moments.{Moment, later_moments, moments, user_moments, moment_entries, own_entries}
use Rattle.ce_record.specs.Users.{own_moments}

-- ---- lists

pub map-flat : {X Y Z : Type 0} (g : Y → Z) (f : X → List Y) (xs : List X) → flat_map (λ x. map g (f x)) xs ≡ map g (flat_map f xs)
map-flat g f [] = refl
map-flat g f (x ∷ xs) = ap (λ ys. map g (f x) ++ ys) (map-flat g f xs) ∙ sym (map-append g (f x) (flat_map f xs))

pub map-none : {X Y : Type 0} (f : X → Y) (xs : List X) → map f xs ≡ [] → xs ≡ []
map-none f [] none = refl
map-none f (x ∷ xs) none = absurd (cc)

pub flat-last : {X Y : Type 0} (f : X → List Y) (xs : List X) (x : X) → flat_map f (xs ++ x ∷ []) ≡ flat_map f xs ++ f x
flat-last f xs x = flat_map-append f xs (x ∷ []) ∙ ap (λ more. flat_map f xs ++ more) (append-nil (f x))

pub filter-no : {X : Type 0} (test : X → Bool) (xs : List X) → AllByRecursion (λ x. test x ≡ false) xs → filter test xs ≡ []
filter-no test [] all = refl
filter-no test (x ∷ xs) all = rw all.0 (filter-no test xs all.1)

-- ---- moments

pub behind-append : (before xs ys : List Entry) → later_moments before (xs ++ ys) ≡ later_moments before xs ++ later_moments (before ++ xs) ys
behind-append before [] ys = ap (λ b. later_moments b ys) (sym (append-nil before))
behind-append before (x ∷ xs) ys =
    ap (λ rest. record { before = before; entry = x } ∷ rest)
    (behind-append (before ++ x ∷ []) xs ys ∙ ap (λ b. later_moments (before ++ x ∷ []) xs ++ later_moments b ys) (one_further before x xs))

pub moments-append : (history made : List Entry) → moments (history ++ made) ≡ moments history ++ later_moments history made
unfolding moments
moments-append history made = behind-append [] history made

-- the entries of moments are those of the history
pub entries-behind : (before behind : List Entry) → moment_entries (later_moments before behind) ≡ behind
entries-behind before [] = refl
entries-behind before (entry ∷ behind) = ap (λ rest. entry ∷ rest) (entries-behind (before ++ entry ∷ []) behind)

-- ---- a user's

pub entries-amid : (user : ℕ) (before behind : List Entry) → moment_entries (own_moments user before behind) ≡ own_entries user behind
entries-amid user before [] = refl
entries-amid user before (entry ∷ behind) =
    one (entry.user == user) (record { before = before; entry = entry }) _ _ (entries-amid user (before ++ entry ∷ []) behind)
  where
    one : (b : Bool) (moment : Moment) (rest : List Moment) (entries : List Entry) → moment_entries rest ≡ entries
        → moment_entries (if b then moment ∷ rest else rest) ≡ (if b then moment.entry ∷ entries else entries)
    one true moment rest entries same = ap (λ entries. moment.entry ∷ entries) same
    one false moment rest entries same = same

pub entries-own : (user : ℕ) (history : List Entry) → moment_entries (user_moments user history) ≡ own_entries user history
unfolding moments
entries-own user history = entries-amid user [] history

pub all-behind : (P : Entry → Type 0) (before behind : List Entry) → AllByRecursion P behind → AllByRecursion (λ (moment : Moment). P moment.entry) (later_moments before behind)
all-behind P before [] all = tt
all-behind P before (entry ∷ behind) all = (all.0, all-behind P (before ++ entry ∷ []) behind all.1)

-- a user's moments of a history that goes on
pub own-append : (user : ℕ) (history between : List Entry) → user_moments user (history ++ between) ≡ user_moments user history ++ own_moments user history between
own-append user history between =
    ap (filter (λ (moment : Moment). moment.entry.user == user)) (moments-append history between)
    ∙ filter-append (λ (moment : Moment). moment.entry.user == user) (moments history) (later_moments history between)

-- by entries of this user
pub own-all : (user : ℕ) (history made : List Entry) → AllByRecursion (λ entry. entry.user ≡ user) made → own_moments user history made ≡ later_moments history made
own-all user history made all =
    filter-kept (λ (moment : Moment). moment.entry.user == user) (later_moments history made)
    (all-behind (λ entry. (entry.user == user) ≡ true) history made
    (all-weaker (λ entry. entry.user ≡ user) (λ entry. (entry.user == user) ≡ true) made (λ entry is. eq-eqb _ _ is) all))

-- or of others
pub own-stays : (user : ℕ) (history others : List Entry) → AllByRecursion (λ entry. entry.user ≢ user) others → user_moments user (history ++ others) ≡ user_moments user history
own-stays user history others foreign =
    own-append user history others
    ∙ ap (λ more. user_moments user history ++ more)
    (filter-no (λ (moment : Moment). moment.entry.user == user) (later_moments history others)
    (all-behind (λ entry. (entry.user == user) ≡ false) history others
    (all-weaker (λ entry. entry.user ≢ user) (λ entry. (entry.user == user) ≡ false) others (λ entry other. ne_eqb _ _ other) foreign)))
    ∙ append-nil (user_moments user history)

-- one user's entries are of others to another
pub foreign-to : (user other : ℕ) (made : List Entry) → user ≢ other → AllByRecursion (λ entry. entry.user ≡ user) made → AllByRecursion (λ entry. entry.user ≢ other) made
foreign-to user other made differ =
    all-weaker (λ entry. entry.user ≡ user) (λ entry. entry.user ≢ other) made (λ entry is same. differ (sym is ∙ same))
