-- What follows from which words were asked.
use Rattle.std.proofs.Common.{◌≡◌, ◌⊎◌, inl, ℕ, ◌≤◌, List, [], Bool, true, false, Option, Some, None, refl, sym, ap, ◌∙◌, subst, arith, rules}
use Rattle.std.specs.Prelude.{is_some, IfSome}
use Rattle.std.specs.Io.KnownBytes.{Appends}
use Rattle.lb_base.specs.Known.{AppendsPrefix}
use Rattle.store.specs.declared.record.Kept.{Kept}
use Rattle.exit_status.specs.declared.status.Status.{Status}
use Rattle.exit_status.specs.declared.status.Status.TheVariants as status
use Rattle.lbfs_client.specs.Host.{Host}
use Rattle.lbfs_client.specs.declared.line.MountLine.{MountLine}
use Rattle.lbfs_mount.specs.Cached.{IsNotice, WritesAll}
use Rattle.lbfs_mount.specs.Saved.{IsKept}
use Rattle.program_words.specs.declared.asked.Command.{Command}
use Rattle.program_words.specs.declared.asked.Asked.{Asked}
use Rattle.program_words.specs.declared.asked.Asked.TheVariants as ask
use Rattle.program_words.specs.declared.asked.ServeOptions.{ServeOptions}
use Rattle.program_words.specs.declared.asked.MountOptions.{MountOptions}
use Rattle.program_words.specs.declared.asked.CheckOptions.{CheckOptions}
use Rattle.program_words.specs.Words.{command_in}
use Rattle.lbfs_run.specs.PlainEnds.{IsAnswered, IsAnsweredFrom, IsBegun, IsBegunFrom, IsBroken, IsBrokenFrom}
use Rattle.lbfs_run.specs.Checking.{CheckEnds}
use Rattle.lbfs_run.specs.Serving.{ServeEnds}

-- ---- of another command that is the same

pub answered_by : (j k : Option Command) (left held held' : Option (List ℕ)) (s : Status) → j ≡ k → IsAnswered j left held held' s → IsAnswered k left held held' s
answered_by j k left held held' s e h = subst (λ (c : Option Command). IsAnswered c left held held' s) e h

pub taken_by : (j k : Option Command) (left left' held held' : Option (List ℕ)) (s : Status) → j ≡ k → IsAnsweredFrom j left left' held held' s → IsAnsweredFrom k left left' held held' s
taken_by j k left left' held held' s e h = subst (λ (c : Option Command). IsAnsweredFrom c left left' held held' s) e h

pub broken_by : (j k : Option Command) (left held held' : Option (List ℕ)) → j ≡ k → IsBroken j left held held' → IsBroken k left held held'
broken_by j k left held held' e h = subst (λ (c : Option Command). IsBroken c left held held') e h

pub broken_off_by : (j k : Option Command) (left left' held held' : Option (List ℕ)) → j ≡ k → IsBrokenFrom j left left' held held' → IsBrokenFrom k left left' held held'
broken_off_by j k left left' held held' e h = subst (λ (c : Option Command). IsBrokenFrom c left left' held held') e h

pub starved_by : (j k : Option Command) (left held held' : Option (List ℕ)) → j ≡ k → IsBegun j left held held' → IsBegun k left held held'
starved_by j k left held held' e h = subst (λ (c : Option Command). IsBegun c left held held') e h

pub starved_off_by : (same : Type 0) (j k : Option Command) (left left' held held' : Option (List ℕ)) → j ≡ k → same ⊎ IsBegunFrom j left left' held held' → same ⊎ IsBegunFrom k left left' held held'
starved_off_by same j k left left' held held' e h = subst (λ (c : Option Command). same ⊎ IsBegunFrom c left left' held held') e h

-- ---- what was asked

pub not_serve : {A : Type 0} (a : Option Asked) (c : Command) (o : ServeOptions) → a ≡ Some (ask.Command c) → a ≡ Some (ask.Serve o) → A
not_serve a c o e f = let both : Some (ask.Command c) ≡ Some (ask.Serve o) = sym e ∙ f in cc

pub not_mount : {A : Type 0} (a : Option Asked) (c : Command) (o : MountOptions) → a ≡ Some (ask.Command c) → a ≡ Some (ask.Mount o) → A
not_mount a c o e f = let both : Some (ask.Command c) ≡ Some (ask.Mount o) = sym e ∙ f in cc

pub not_check : {A : Type 0} (a : Option Asked) (c : Command) (o : CheckOptions) → a ≡ Some (ask.Command c) → a ≡ Some (ask.Check o) → A
not_check a c o e f = let both : Some (ask.Command c) ≡ Some (ask.Check o) = sym e ∙ f in cc

pub check_not_serve : {A : Type 0} (a : Option Asked) (o : CheckOptions) (p : ServeOptions) → a ≡ Some (ask.Check o) → a ≡ Some (ask.Serve p) → A
check_not_serve a o p e f = let both : Some (ask.Check o) ≡ Some (ask.Serve p) = sym e ∙ f in cc

pub check_not_mount : {A : Type 0} (a : Option Asked) (o : CheckOptions) (p : MountOptions) → a ≡ Some (ask.Check o) → a ≡ Some (ask.Mount p) → A
check_not_mount a o p e f = let both : Some (ask.Check o) ≡ Some (ask.Mount p) = sym e ∙ f in cc

pub not_both : {A : Type 0} (a : Option Asked) (o : ServeOptions) (p : MountOptions) → a ≡ Some (ask.Serve o) → a ≡ Some (ask.Mount p) → A
not_both a o p e f = let both : Some (ask.Serve o) ≡ Some (ask.Mount p) = sym e ∙ f in cc

pub not_some : {A : Type 0} (a : Option Asked) (x : Asked) → a ≡ None → a ≡ Some x → A
not_some a x e f = let both : None ≡ Some x = sym e ∙ f in cc

pub no_command : {A : Type 0} (a : Option Asked) (c : Command) → command_in a ≡ None → command_in a ≡ Some c → A
no_command a c e f = let both : None ≡ Some c = sym e ∙ f in cc

pub no_both : {A : Type 0} (b : Bool) → b ≡ false → b ≡ true → A
no_both b e f = let both : false ≡ true = sym e ∙ f in cc

abbrev serve_in : ServeOptions → Option Asked → ServeOptions
serve_in d (Some (ask.Serve o)) = o
serve_in d a = d

pub same_serve : (a : Option Asked) (o p : ServeOptions) → a ≡ Some (ask.Serve o) → a ≡ Some (ask.Serve p) → o ≡ p
same_serve a o p e f = ap (serve_in o) (sym e ∙ f)

pub serves_by : (o p : ServeOptions) (accepted accepted' net net' store store' : ℕ) (port : Option ℕ) (records : Option (List Kept)) (there : List ℕ → Option (List Kept)) (held held' : Option (List ℕ)) (s : Status) → o ≡ p
    → ServeEnds o accepted accepted' net net' store store' port records there held held' s → ServeEnds p accepted accepted' net net' store store' port records there held held' s
serves_by o p accepted accepted' net net' store store' port records there held held' s e h = subst (λ (x : ServeOptions). ServeEnds x accepted accepted' net net' store store' port records there held held' s) e h

abbrev check_in : CheckOptions → Option Asked → CheckOptions
check_in d (Some (ask.Check o)) = o
check_in d a = d

pub same_check : (a : Option Asked) (o p : CheckOptions) → a ≡ Some (ask.Check o) → a ≡ Some (ask.Check p) → o ≡ p
same_check a o p e f = ap (check_in o) (sym e ∙ f)

pub checks_by : (o p : CheckOptions) (store store' : ℕ) (records : Option (List Kept)) (there : List ℕ → Option (List Kept)) (held held' : Option (List ℕ)) (s : Status) → o ≡ p
    → CheckEnds o store store' records there held held' s → CheckEnds p store store' records there held held' s
checks_by o p store store' records there held held' s e h = subst (λ (x : CheckOptions). CheckEnds x store store' records there held held' s) e h

abbrev mount_in : MountOptions → Option Asked → MountOptions
mount_in o (Some (ask.Mount p)) = p
mount_in o a = o

pub same_mount : (a : Option Asked) (o p : MountOptions) → a ≡ Some (ask.Mount o) → a ≡ Some (ask.Mount p) → o ≡ p
same_mount a o p e f = ap (mount_in o) (sym e ∙ f)

pub mounts_by : (ends : Bool → Type 0) (o p : MountOptions) → o ≡ p → ends (is_some o.cache) → ends (is_some p.cache)
mounts_by ends o p e h = subst (λ (x : MountOptions). ends (is_some x.cache)) e h

pub saved_by : {D : Type 0} (old host : Host) (o p : MountOptions) → o ≡ p → (D → IfSome o.cache (λ name. ∥ IsKept o.drift o.keep name old host ∥₁)) → D → IfSome p.cache (λ name. ∥ IsKept p.drift p.keep name old host ∥₁)
saved_by {D} old host o p e h = subst (λ (x : MountOptions). D → IfSome x.cache (λ name. ∥ IsKept x.drift x.keep name old host ∥₁)) e h

pub memory_not_done : ◌≡◌ {A = Status} status.Memory status.Done → ⊥
memory_not_done e = cc

-- ---- what stays

pub stays : {A : Type 0} (f : A → ℕ) (x y : A) → y ≡ x → f x ≤ f y
stays f x y e = let same : f y ≡ f x = ap f e in omega (arith, same)

pub nothing : (held : Option (List ℕ)) → Appends held held []
nothing None = search rules
nothing (Some xs) = search rules

pub front : (held : Option (List ℕ)) (text : List ℕ) → AppendsPrefix held held text
front held text = ([], text, refl, nothing held)

-- nothing is said of a cache file
none_told : (cached : Bool) → IsNotice cached []
none_told true = inl refl
none_told false = refl

pub none_written : (Says : MountLine → List ℕ → Type 0) (cached : Bool) (held : Option (List ℕ)) → WritesAll Says cached held held
none_written Says cached held = WritesAll.notice ([], none_told cached, front held [])
