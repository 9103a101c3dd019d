-- What a server is opened with, and what its journal tells in the end.
use Rattle.std.specs.Prelude.{◌≡◌, ℕ, ◌-◌, ◌≤◌, List, ◌∷◌, ◌++◌, map, length, Option, Result, Ok, Err, OnOk, IfOk, IsErrOf}
use Rattle.std.proofs.Common.{refl, ap, sym, ◌∙◌, subst, arith}
use Rattle.std.proofs.lemmas.List.{length-map}
use mathlib.Core.List.{IsPrefix}
use Rattle.store.specs.declared.record.Kept.{Kept}
use Rattle.tree_reading.specs.Tree.{Tree}
use Rattle.server_core.specs.State.{State, with_term, entries_held}
use Rattle.server_core.specs.Step.{with_tree}
use Rattle.tree_load.specs.Load.{load}
use Rattle.file_tree.specs.Storing.{IsStored}
use Rattle.server_law.specs.Facts.{Holds, IsGiven}
use Rattle.server_law.proofs.lemmas.Steps.{opening_told}
use Rattle.server_held.specs.declared.entries.Entered.{Entered}
use Rattle.server_held.specs.declared.entries.Entered.TheVariants.{Opened, Made}
use Rattle.server_held.specs.Kept.{KeptState, KeepsTree, journal_of}
use Rattle.turn_post.proofs.lemmas.Fronts.{prefix_trans}
use Rattle.lbfs_server.specs.declared.listener.Stop.{Stop}
use Rattle.lbfs_server.specs.declared.serve.ServeError.{ServeError}
use Rattle.lbfs_server.specs.declared.serve.Served.{Served}
use Rattle.lbfs_server.specs.Serve.{MayGive, IsTreeOf, IsServerOf, IsBad, IsFront}

pub is_server_of : (told : Option (List Kept)) (term : ℕ) (records : List Kept) (tree : Tree) (server : State) → MayGive told records → load records ≡ Ok tree → server ≡ record (with_term (with_tree tree) term) { index = server.index } → IsServerOf told term server
is_server_of told term records tree server gives loads is = (tree, (records, gives, loads), is)

-- its tree holds what its journal says, which says nothing yet
pub is_opened : (term : ℕ) (records : List Kept) (tree : Tree) (server : State) → IsStored records tree → server ≡ record (with_term (with_tree tree) term) { index = server.index } → Holds server.tree server
is_opened term records tree server stored is = opening_told server (ap (λ (s : State). s.journal) is) (subst IsGiven (sym (ap (λ (s : State). s.tree) is)) given)
  where
    given : IsGiven tree
    given = record { below = stored.0.below; apart = stored.0.apart }

-- the store that gave the records keeps the tree
pub keeps_tree : (told now : Option (List Kept)) (term : ℕ) (records : List Kept) (tree : Tree) (server : State) → MayGive told records → now ≡ told → IsStored records tree → server ≡ record (with_term (with_tree tree) term) { index = server.index } → KeepsTree now server.tree
keeps_tree told now term records tree server gives same stored is = λ held holds.
    let its : records ≡ held = gives held (sym same ∙ holds) in
    subst (λ rs. IsStored rs server.tree) its (subst (λ t. IsStored records t) (sym (ap (λ (s : State). s.tree) is)) stored)

-- ---- in the end

opened_same : (a b : State) (xs ys more : List Entered) → (Opened a ∷ xs) ++ more ≡ Opened b ∷ ys → a ≡ b
opened_same a b xs ys more is = cc

-- a journal that goes on begins with the same server
opening_same : {S : Type 0} (old new : KeptState S) → IsPrefix (journal_of old) (journal_of new) → old.opened ≡ new.opened
opening_same old new begins = opened_same old.opened new.opened (map Made old.server.journal) (map Made new.server.journal) begins.0 begins.1

tree_is : (told : Option (List Kept)) (term : ℕ) (server : State) → IsServerOf told term server → IsTreeOf told server.tree
tree_is told term server of = subst (IsTreeOf told) (sym (ap (λ (s : State). s.tree) of.2)) of.1

changes_are : (opened server : State) → length (Opened opened ∷ map Made server.journal) - 1 ≡ length server.journal
changes_are opened server = let same : length (map Made server.journal) ≡ length server.journal = length-map server.journal Made in omega (arith, same)

pub is_front : {S : Type 0} (told left now : Option (List Kept)) (term : ℕ) (old new : KeptState S) (first last : List Entered) (long front : ℕ)
    → IsServerOf told term old.server → old.opened ≡ old.server → first ≡ journal_of old → IsPrefix first last → IsPrefix last (journal_of new)
    → long ≡ length (journal_of new) → front ≡ long - 1 → Holds new.opened.tree new.server → KeepsTree left new.server.tree → now ≡ left → IsFront told now front
is_front told left now term old new first last long front of opened starts goes_on ends counts less holds kept same =
    let whole : IsPrefix (journal_of old) (journal_of new) = subst (λ es. IsPrefix es (journal_of new)) starts (prefix_trans first last (journal_of new) goes_on ends) in
    let tree : old.server.tree ≡ new.opened.tree = ap (λ (s : State). s.tree) (sym opened ∙ opening_same old new whole) in (
      new.opened.tree,
      new.server,
      subst (IsTreeOf told) tree (tree_is told term old.server of),
      holds,
      subst (λ o. KeepsTree o new.server.tree) (sym same) kept,
      less ∙ ap (λ n. n - 1) counts ∙ changes_are new.opened new.server,
    )

-- the same of a server that stands beside its store as it was opened
pub is_front_in : {S : Type 0} (told left now : Option (List Kept)) (term : ℕ) (server : State) (store : S) (old new : KeptState S) (first last : List Entered) (long front : ℕ)
    → IsServerOf told term server → old ≡ record { server = server; store = store; opened = server } → first ≡ journal_of old → IsPrefix first last → IsPrefix last (journal_of new)
    → long ≡ length (journal_of new) → front ≡ long - 1 → Holds new.opened.tree new.server → KeepsTree left new.server.tree → now ≡ left → IsFront told now front
is_front_in {S} told left now term server store old new first last long front of is starts goes_on ends counts less holds kept same =
    is_front told left now term old new first last long front
    (subst (λ (k : KeptState S). IsServerOf told term k.server) (sym is) of)
    (ap (λ (k : KeptState S). k.opened) is ∙ sym (ap (λ (k : KeptState S). k.server) is))
    starts goes_on ends counts less holds kept same

pub is_bad : (told : Option (List Kept)) (records : List Kept) (which : ℕ) → MayGive told records → load records ≡ Err which → IsBad told which
is_bad told records which gives loads = (records, gives, loads)

-- nothing waits in a server that was opened
pub none_held : (told : Option (List Kept)) (term : ℕ) (server : State) (spare : ℕ) → IsServerOf told term server → entries_held server.waiting ≤ spare
none_held told term server spare of = subst (λ s. entries_held s.waiting ≤ spare) (sym of.2) (omega arith)

-- an error is the same, whatever else might have been answered
pub same_error : {A B E : Type 0} → (e x : E) → ◌≡◌ {A = Result A E} (Err e) (Err x) → ◌≡◌ {A = Result B E} (Err e) (Err x)
same_error e x is = let same : e ≡ x = cc in ap Err same

-- ---- what is told

abbrev Told : Type 0
Told = Result Served ServeError

-- `Ok` is told only where nothing ended it
abbrev Unended : Told → Result Unit Stop → Type 0
Unended told ended = OnOk told ((stop : Stop) → IsErrOf ended stop → ⊥)

pub told_anyhow : (X : Type 0) (told : Told) → X → OnOk told X
told_anyhow X (Ok s) x = x
told_anyhow X (Err e) x = tt

pub told_of : (X : Type 0) (told : Told) (ended : Result Unit Stop) → Unended told ended → OnOk ended X → OnOk told X
told_of X (Ok s) (Ok a) went x = x
told_of X (Ok s) (Err stop) went x = absurd (went stop refl)
told_of X (Err e) ended went x = tt

pub sessions_told : (X : Type 0) (told : Told) (ended : Result Unit Stop) (sessions front : ℕ) → IfOk told (λ s. (s.sessions ≡ sessions) × (s.front ≡ front)) → Unended told ended → OnOk ended X → IfOk told (λ s. (s.sessions ≡ sessions) × X)
sessions_told X (Ok s) (Ok a) sessions front is went x = (is.0, x)
sessions_told X (Ok s) (Err stop) sessions front is went x = absurd (went stop refl)
sessions_told X (Err e) ended sessions front is went x = tt

pub front_told : (told : Told) (sessions front : ℕ) (first last : Option (List Kept)) → IfOk told (λ s. (s.sessions ≡ sessions) × (s.front ≡ front)) → IsFront first last front → IfOk told (λ s. IsFront first last s.front)
front_told (Ok s) sessions front first last is of = subst (IsFront first last) (sym is.1) of
front_told (Err e) sessions front first last is of = tt

-- what `opened` goes by
pub ruleset by_opened = (is_server_of, keeps_tree, is_bad)
