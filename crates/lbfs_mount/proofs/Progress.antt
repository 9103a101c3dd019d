-- How far a script was read, and what was written for its lines.
use Rattle.std.proofs.Common.{◌≡◌, inl, inr, ℕ, ◌+◌, ◌≤◌, ◌<◌, List, [], ◌∷◌, ◌++◌, length, Bool, true, false, refl, sym, ap, ◌∙◌, subst, arith, append_assoc, length-append}
use Rattle.std.specs.Prelude.{Option, Some, None, Result, Ok, Err, OnOk, OnErr, IfErr, IfSome, IsErrOf}
use Rattle.std.proofs.lemmas.List.{append-nil}
use Rattle.std.specs.Io.KnownBytes.{Appends, Consumes, IsAtEnd}
use Rattle.lb_base.specs.Causes.{Rose}
use Rattle.lb_base.specs.Known.{AppendsPart, AppendsPrefix}
use Rattle.lb_base.specs.declared.sink.GiveError.{GiveError}
use Rattle.lb_base.specs.declared.sink.GiveError.TheVariants as give
use Rattle.lb_base.specs.declared.source.ReadError.{ReadError}
use Rattle.lb_base.specs.declared.source.ReadError.TheVariants as read
use Rattle.limits.specs.declared.TheConstants.{INPUT_MOST}
use Rattle.command_text.specs.Parts.{lines_of}
use Rattle.lbfs_client.specs.Lines.{line_of}
use Rattle.lbfs_client.specs.declared.line.MountLine.{MountLine}
use Rattle.lbfs_mount.specs.declared.mount_error.MountError.{MountError}
use Rattle.lbfs_mount.specs.declared.mount_error.MountError.TheVariants as errors
use Rattle.lbfs_mount.specs.Script.{Coming, nothing_yet, coming, MayFollow, Takes, Gives}
use Rattle.lbfs_mount.proofs.Coming.{apart, consumes_more, consumes_none}
use Rattle.lbfs_mount.specs.Mounts.{TellsIf, is_skip, IsDone, Tells, TellsLine, Writes, WritesPart, Outside, Unjoined, Untold, Unwritten, WriteEnds, AnswerEnds, TextFails, TextEnds, Fails, Ends, written_as, read_end}

-- ---- known bytes

pub appends_none : (a : Option (List ℕ)) → Appends a a []
appends_none None = tt
appends_none (Some xs) = sym (append-nil xs)

appends_more : (a b c : Option (List ℕ)) (xs ys : List ℕ) → Appends a b xs → Appends b c ys → Appends a c (xs ++ ys)
appends_more None b c xs ys p q = tt
appends_more (Some us) None c xs ys p q = absurd p
appends_more (Some us) (Some bs) None xs ys p q = absurd q
appends_more (Some us) (Some bs) (Some cs) xs ys p q = q ∙ ap (λ z. z ++ ys) p ∙ append_assoc us xs ys

appends_nothing : (a b c : Option (List ℕ)) (xs : List ℕ) → Appends a b xs → Appends b c [] → Appends a c xs
appends_nothing a b c xs p q = subst (λ (zs : List ℕ). Appends a c zs) (append-nil xs) (appends_more a b c xs [] p q)

pub prefix_all : (a b : Option (List ℕ)) (xs : List ℕ) → Appends a b xs → AppendsPrefix a b xs
prefix_all a b xs p = (xs, [], append-nil xs, p)

prefix_more : (a b c : Option (List ℕ)) (xs ys : List ℕ) → Appends a b xs → AppendsPrefix b c ys → AppendsPrefix a c (xs ++ ys)
prefix_more a b c xs ys p q = (xs ++ q.0, q.1, append_assoc xs q.0 q.1 ∙ ap (λ z. xs ++ z) q.2, appends_more a b c xs q.0 p q.3)

pub rose_more : (a b c : ℕ) → a ≤ b → Rose b c → Rose a c
rose_more a b c later rose = omega (arith, later, rose)

-- ---- a line is told

part_of : (a b : Option (List ℕ)) (bytes : List ℕ) → AppendsPart a b bytes → AppendsPrefix a b bytes
part_of a b bytes p = (p.0, p.1, p.2, p.3)

pub write_ends : (r : Result Unit GiveError) (held held' : Option (List ℕ)) (writes writes' : ℕ) (bytes : List ℕ) → OnOk r (Appends held held' bytes) → OnErr r (AppendsPart held held' bytes) → (IsErrOf r give.Failed → Rose writes writes') → WriteEnds bytes held held' writes writes' (written_as r)
write_ends (Ok u) held held' writes writes' bytes all part rose = all
write_ends (Err give.Failed) held held' writes writes' bytes all part rose = (part_of held held' bytes part, rose refl)
write_ends (Err give.Memory) held held' writes writes' bytes all part rose = (part_of held held' bytes part, tt)

untold_of : (link_fails : Type 0) (writes dials dials' : ℕ) (e : MountError) → Unjoined link_fails dials dials' e → Untold link_fails writes writes dials dials' e
untold_of link_fails writes dials dials' errors.ReadFault p = absurd p
untold_of link_fails writes dials dials' errors.WriteFault p = absurd p
untold_of link_fails writes dials dials' (errors.BadLine n) p = absurd p
untold_of link_fails writes dials dials' errors.Network p = p
untold_of link_fails writes dials dials' errors.Memory p = tt
untold_of link_fails writes dials dials' errors.TooLong p = absurd p

untold_written : (link_fails : Type 0) (writes writes' dials dials' : ℕ) (e : MountError) → Unwritten writes writes' e → Untold link_fails writes writes' dials dials' e
untold_written link_fails writes writes' dials dials' errors.ReadFault p = absurd p
untold_written link_fails writes writes' dials dials' errors.WriteFault p = p
untold_written link_fails writes writes' dials dials' (errors.BadLine n) p = absurd p
untold_written link_fails writes writes' dials dials' errors.Network p = absurd p
untold_written link_fails writes writes' dials dials' errors.Memory p = tt
untold_written link_fails writes writes' dials dials' errors.TooLong p = absurd p

untold_fails : (link_fails : Type 0) (l : Option MountLine) (number : ℕ) (held held' : Option (List ℕ)) (writes writes' dials dials' : ℕ) (e : MountError) → Untold link_fails writes writes' dials dials' e → TextFails link_fails l number held held' writes writes' dials dials' e
untold_fails link_fails l number held held' writes writes' dials dials' errors.ReadFault p = absurd p
untold_fails link_fails l number held held' writes writes' dials dials' errors.WriteFault p = p
untold_fails link_fails l number held held' writes writes' dials dials' (errors.BadLine n) p = absurd p
untold_fails link_fails l number held held' writes writes' dials dials' errors.Network p = p
untold_fails link_fails l number held held' writes writes' dials dials' errors.Memory p = tt
untold_fails link_fails l number held held' writes writes' dials dials' errors.TooLong p = absurd p

abbrev pub outside : (left : Option (List ℕ)) (reads : ℕ) (held : Option (List ℕ)) (writes dials : ℕ) → Outside
outside left reads held writes dials = record { left = left; reads = reads; held = held; writes = writes; dials = dials }

-- ---- what follows

none_of : (b : List ℕ) → length b ≡ 0 → b ≡ []
none_of [] e = refl
none_of (x ∷ xs) e = absurd (omega (arith, e))

-- once the input has ended, the script stays as it is
abbrev pub Still : {A : Type 0} → Coming → Coming → A → A → Type 0
Still k k' s s' = k.ended ≡ true → (k'.ended ≡ true) × (k'.taken ≡ k.taken) × (s' ≡ s)

may_before : {A : Type 0} (k k' : Coming) (s s' : A) (b more : List ℕ) → k'.taken ≡ k.taken + length b → Still k k' s s' → MayFollow k' more → MayFollow k (b ++ more)
may_before k k' s s' b more count still may = λ ended.
    let same : k'.taken ≡ k.taken = (still ended).1 in
    let none : b ≡ [] = none_of b (omega (arith, count, same)) in
    ap (λ (z : List ℕ). z ++ more) none ∙ may (still ended).0

end_by : {A : Type 0} (left : A → Option (List ℕ)) (k k' : Coming) (s s' : A) (e : Bool) → k.ended ≡ e → (k.ended ≡ true → IsAtEnd (left s)) → Still k k' s s' → (k.ended ≡ false → k'.ended ≡ true → IsAtEnd (left s')) → k'.ended ≡ true → IsAtEnd (left s')
end_by left k k' s s' true is before still after now = subst (λ (z : Option (List ℕ)). IsAtEnd z) (sym (ap left (still is).2)) (before is)
end_by left k k' s s' false is before still after now = after is now

unjoined_more : (link_fails : Type 0) (dials dials' : ℕ) (e : MountError) → dials ≤ dials' → Unjoined link_fails dials' dials' e → Unjoined link_fails dials dials' e
unjoined_more link_fails dials dials' errors.ReadFault later p = absurd p
unjoined_more link_fails dials dials' errors.WriteFault later p = absurd p
unjoined_more link_fails dials dials' (errors.BadLine n) later p = absurd p
unjoined_more link_fails dials dials' errors.Network later (inl p) = inl (rose_more dials dials' dials' later p)
unjoined_more link_fails dials dials' errors.Network later (inr p) = inr p
unjoined_more link_fails dials dials' errors.Memory later p = tt
unjoined_more link_fails dials dials' errors.TooLong later p = absurd p

-- a link that has no twin
pub unpaired : {A : Type 0} (r : Result A MountError) (link_fails : Type 0) (dials dials' : ℕ) → dials ≤ dials' → IfErr r (λ e. Unjoined link_fails dials' dials' e) → IfErr r (λ e. Unjoined link_fails dials dials' e)
unpaired (Ok x) link_fails dials dials' later p = tt
unpaired (Err e) link_fails dials dials' later p = unjoined_more link_fails dials dials' e later p

module _ (Says : MountLine → List ℕ → Type 0) where
  -- the line didn't run to its end
  pub unjoined_ends : (link_fails : Type 0) (l : MountLine) (held : Option (List ℕ)) (writes dials dials' : ℕ) (e : MountError) → Unjoined link_fails dials dials' e → AnswerEnds Says link_fails l held held writes writes dials dials' (Err e)
  unjoined_ends link_fails l held writes dials dials' e p = (inl (appends_none held), untold_of link_fails writes dials dials' e p)

  -- it did
  pub answer_ends : (link_fails : Type 0) (l : MountLine) (text : List ℕ) (held held' : Option (List ℕ)) (writes writes' dials dials' : ℕ) (r : Result Unit MountError) → Says l text → WriteEnds text held held' writes writes' r → AnswerEnds Says link_fails l held held' writes writes' dials dials' r
  answer_ends link_fails l text held held' writes writes' dials dials' (Ok u) says p = (text, says, p)
  answer_ends link_fails l text held held' writes writes' dials dials' (Err e) says (out, why) = (inr (text, says, out), untold_written link_fails writes writes' dials dials' e why)

  tells_if : (b : Bool) (l : MountLine) (told : List ℕ) → b ≡ false → Says l told → TellsIf Says b l told
  tells_if b l told is p = subst (λ (x : Bool). TellsIf Says x l told) (sym is) p

  tells_some : (o : Option MountLine) (l : MountLine) (told : List ℕ) → o ≡ Some l → TellsIf Says (is_skip l) l told → TellsLine Says o told
  tells_some o l told is p = subst (λ (x : Option MountLine). TellsLine Says x told) (sym is) p

  -- a line that isn't skipped
  pub text_ends : (link_fails : Type 0) (o : Option MountLine) (l : MountLine) (number : ℕ) (held held' : Option (List ℕ)) (writes writes' dials dials' : ℕ) (r : Result Unit MountError) → o ≡ Some l → is_skip l ≡ false → AnswerEnds Says link_fails l held held' writes writes' dials dials' r → TextEnds Says link_fails o number held held' writes writes' dials dials' r
  text_ends link_fails o l number held held' writes writes' dials dials' (Ok u) is runs p = (p.0, tells_some o l p.0 is (tells_if (is_skip l) l p.0 runs p.1), p.2)
  text_ends link_fails o l number held held' writes writes' dials dials' (Err e) is runs (inl none, why) = (inl none, untold_fails link_fails o number held held' writes writes' dials dials' e why)
  text_ends link_fails o l number held held' writes writes' dials dials' (Err e) is runs (inr (t, says, out), why) = (inr (t, tells_some o l t is (tells_if (is_skip l) l t runs says), out), untold_fails link_fails o number held held' writes writes' dials dials' e why)

  -- one that is
  pub skipped_ends : (link_fails : Type 0) (o : Option MountLine) (l : MountLine) (number : ℕ) (held : Option (List ℕ)) (writes dials : ℕ) (u : Unit {0}) → o ≡ Some l → is_skip l ≡ true → TextEnds Says link_fails o number held held writes writes dials dials (Ok u)
  skipped_ends link_fails o l number held writes dials u is skips = ([], tells_some o l [] is (subst (λ (x : Bool). TellsIf Says x l []) (sym skips) refl), appends_none held)

  -- none of a script
  pub bad_ends : (link_fails : Type 0) (o : Option MountLine) (number : ℕ) (held : Option (List ℕ)) (writes dials : ℕ) → o ≡ None → TextEnds Says link_fails o number held held writes writes dials dials (Err (errors.BadLine number))
  bad_ends link_fails o number held writes dials is = (inl (appends_none held), (refl, is, appends_none held))

  pub starved_ends : (link_fails : Type 0) (o : Option MountLine) (number : ℕ) (held : Option (List ℕ)) (writes dials : ℕ) → TextEnds Says link_fails o number held held writes writes dials dials (Err errors.Memory)
  starved_ends link_fails o number held writes dials = (inl (appends_none held), tt)

  -- ---- how far a script was read

  -- of the script these bytes were taken, these lines given, and what was written tells them
  pub record Progress (o s : Outside) (k : Coming) (count : ℕ) : Type 0 where
    pub bytes : List ℕ
    pub taken : Consumes o.left s.left bytes
    pub size : k.taken ≡ length bytes
    pub at_end : k.ended ≡ true → IsAtEnd s.left
    pub lines : List (List ℕ)
    pub gave : (more : List ℕ) → MayFollow k more → lines_of (bytes ++ more) ≡ lines ++ coming k more
    pub counted : length lines ≡ count
    pub written : List ℕ
    pub told : Tells Says lines written
    pub out : Appends o.held s.held written
    pub reads : o.reads ≤ s.reads
    pub writes : o.writes ≤ s.writes
    pub dials : o.dials ≤ s.dials

  -- the same, and one line more was given, which wasn't told yet
  pub record Given (o s : Outside) (k : Coming) (count : ℕ) (text : List ℕ) : Type 0 where
    pub bytes : List ℕ
    pub taken : Consumes o.left s.left bytes
    pub size : k.taken ≡ length bytes
    pub at_end : k.ended ≡ true → IsAtEnd s.left
    pub lines : List (List ℕ)
    pub gave : (more : List ℕ) → MayFollow k more → lines_of (bytes ++ more) ≡ (lines ++ text ∷ []) ++ coming k more
    pub counted : length lines ≡ count
    pub written : List ℕ
    pub told : Tells Says lines written
    pub out : Appends o.held s.held written
    pub reads : o.reads ≤ s.reads
    pub writes : o.writes ≤ s.writes
    pub dials : o.dials ≤ s.dials

  pub begun : (o : Outside) (k : Coming) → k ≡ nothing_yet → Progress o o k 0
  begun o k is = subst (λ (x : Coming). Progress o o x 0) (sym is) (record {
    bytes = [];
    taken = consumes_none o.left;
    size = refl;
    at_end = λ e. absurd (apart (sym e));
    lines = [];
    gave = λ more may. refl;
    counted = refl;
    written = [];
    told = Tells.nothing;
    out = appends_none o.held;
    reads = omega arith;
    writes = omega arith;
    dials = omega arith;
  })

  -- a line was given
  pub given : {A : Type 0} (left : A → Option (List ℕ)) (o : Outside) (s s' : A) (reads reads' : ℕ) (held : Option (List ℕ)) (writes dials : ℕ) (k k' : Coming) (count : ℕ) (b text : List ℕ) → Progress o (outside (left s) reads held writes dials) k count → Consumes (left s) (left s') b → Gives k b text k' → Still k k' s s' → (k.ended ≡ false → k'.ended ≡ true → IsAtEnd (left s')) → reads ≤ reads' → Given o (outside (left s') reads' held writes dials) k' count text
  given left o s s' reads reads' held writes dials k k' count b text p took gives still ended later = record {
    bytes = p.bytes ++ b;
    taken = consumes_more o.left (left s) (left s') p.bytes b p.taken took;
    size = omega (arith, gives.count, p.size, length-append p.bytes b);
    at_end = end_by left k k' s s' k.ended refl p.at_end still ended;
    lines = p.lines;
    gave = λ more may.
        ap lines_of (append_assoc p.bytes b more)
        ∙ p.gave (b ++ more) (may_before k k' s s' b more gives.count still may)
        ∙ ap (λ (z : List (List ℕ)). p.lines ++ z) (gives.first more may)
        ∙ sym (append_assoc p.lines (text ∷ []) (coming k' more));
    counted = p.counted;
    written = p.written;
    told = p.told;
    out = p.out;
    reads = omega (arith, p.reads, later);
    writes = p.writes;
    dials = p.dials;
  }

  -- the same, of what came
  pub given_some : {A : Type 0} (left : A → Option (List ℕ)) (o : Outside) (s s' : A) (reads reads' : ℕ) (held : Option (List ℕ)) (writes dials : ℕ) (k k' : Coming) (count : ℕ) (came : Option (List ℕ)) (text : List ℕ) → Progress o (outside (left s) reads held writes dials) k count → came ≡ Some text → IfSome came (λ line. (b : List ℕ) × Consumes (left s) (left s') b × Gives k b line k') → Still k k' s s' → (k.ended ≡ false → k'.ended ≡ true → IsAtEnd (left s')) → reads ≤ reads' → Given o (outside (left s') reads' held writes dials) k' count text
  given_some left o s s' reads reads' held writes dials k k' count came text p is some still ended later =
      let took : (b : List ℕ) × Consumes (left s) (left s') b × Gives k b text k' = subst (λ (x : Option (List ℕ)). IfSome x (λ line. (b : List ℕ) × Consumes (left s) (left s') b × Gives k b line k')) is some in
      given left o s s' reads reads' held writes dials k k' count took.0 text p took.1 took.2 still ended later

  told_by : (link_fails : Type 0) (r : Result Unit MountError) (slice text : List ℕ) (number : ℕ) (held held' : Option (List ℕ)) (writes writes' dials dials' : ℕ) (u : Unit {0}) → r ≡ Ok u → slice ≡ text → TextEnds Says link_fails (line_of slice) number held held' writes writes' dials dials' r → (t : List ℕ) × TellsLine Says (line_of text) t × Appends held held' t
  told_by link_fails r slice text number held held' writes writes' dials dials' u is same p = subst (λ (z : List ℕ). (t : List ℕ) × TellsLine Says (line_of z) t × Appends held held' t) same (subst (λ (x : Result Unit MountError). TextEnds Says link_fails (line_of slice) number held held' writes writes' dials dials' x) is p)

  -- it was told
  pub told : (link_fails : Type 0) (o : Outside) (left : Option (List ℕ)) (reads : ℕ) (held held' : Option (List ℕ)) (writes writes' dials dials' : ℕ) (k : Coming) (count number : ℕ) (text slice : List ℕ) (r : Result Unit MountError) (u : Unit {0}) → Given o (outside left reads held writes dials) k count text → r ≡ Ok u → slice ≡ text → TextEnds Says link_fails (line_of slice) number held held' writes writes' dials dials' r → writes ≤ writes' → dials ≤ dials' → Progress o (outside left reads held' writes' dials') k (count + 1)
  told link_fails o left reads held held' writes writes' dials dials' k count number text slice r u g is same ends more_writes more_dials =
      let t : (t : List ℕ) × TellsLine Says (line_of text) t × Appends held held' t = told_by link_fails r slice text number held held' writes writes' dials dials' u is same ends in
      record {
        bytes = g.bytes;
        taken = g.taken;
        size = g.size;
        at_end = g.at_end;
        lines = g.lines ++ text ∷ [];
        gave = g.gave;
        counted = omega (arith, g.counted, length-append g.lines (text ∷ []));
        written = g.written ++ t.0;
        told = Tells.more g.lines g.written text t.0 g.told t.1;
        out = appends_more o.held held held' g.written t.0 g.out t.2;
        reads = g.reads;
        writes = omega (arith, g.writes, more_writes);
        dials = omega (arith, g.dials, more_dials);
      }

  -- ---- the end

  -- the script was read to its end
  pub done : {A : Type 0} (left : A → Option (List ℕ)) (o : Outside) (s s' : A) (reads : ℕ) (held : Option (List ℕ)) (writes dials : ℕ) (k k' : Coming) (count : ℕ) (b : List ℕ) → Progress o (outside (left s) reads held writes dials) k count → Consumes (left s) (left s') b → Takes k b k' → k'.ended ≡ true → coming k' [] ≡ [] → Still k k' s s' → (k.ended ≡ false → k'.ended ≡ true → IsAtEnd (left s')) → IsDone Says o.left (left s') o.held held
  done left o s s' reads held writes dials k k' count b p took takes now none still ended =
      let may : MayFollow k (b ++ []) = may_before k k' s s' b [] takes.count still (λ e. refl) in
      let same : b ++ [] ≡ b = append-nil b in
      let rest : coming k b ≡ [] = ap (coming k) (sym same) ∙ takes.same [] (λ e. refl) ∙ none in
      let all : lines_of (p.bytes ++ b) ≡ p.lines =
      ap (λ (z : List ℕ). lines_of (p.bytes ++ z)) (sym same)
      ∙ p.gave (b ++ []) may
      ∙ ap (λ (z : List ℕ). p.lines ++ coming k z) same
      ∙ ap (λ (z : List (List ℕ)). p.lines ++ z) rest
      ∙ append-nil p.lines in (
        p.bytes ++ b,
        p.written,
        consumes_more o.left (left s) (left s') p.bytes b p.taken took,
        end_by left k k' s s' k.ended refl p.at_end still ended now,
        subst (λ (ls : List (List ℕ)). Tells Says ls p.written) (sym all) p.told,
        p.out,
      )

  -- the script wasn't read
  pub unread : (link_fails : Type 0) (o s : Outside) (left' : Option (List ℕ)) (reads' : ℕ) (k : Coming) (count : ℕ) (why : ReadError) → Progress o s k count → (why ≡ read.Fault → Rose s.reads reads') → (why ≡ read.TooLong → (b : List ℕ) × Consumes s.left left' b × (INPUT_MOST < k.taken + length b)) → Ends Says link_fails o (record s { left = left'; reads = reads' }) (Err (read_end why))
  unread link_fails o s left' reads' k count read.Fault p rose longer = ((p.lines, p.written, p.told, prefix_all o.held s.held p.written p.out), rose_more o.reads s.reads reads' p.reads (rose refl))
  unread link_fails o s left' reads' k count read.TooLong p rose longer =
      let more = longer refl in
      let size : INPUT_MOST < k.taken + length more.0 = more.2 in
      ((p.lines, p.written, p.told, prefix_all o.held s.held p.written p.out), (p.bytes ++ more.0, consumes_more o.left s.left left' p.bytes more.0 p.taken more.1, omega (arith, size, p.size, length-append p.bytes more.0)))
  unread link_fails o s left' reads' k count read.Memory p rose longer = ((p.lines, p.written, p.told, prefix_all o.held s.held p.written p.out), tt)

  part : (o s : Outside) (held' : Option (List ℕ)) (k : Coming) (count : ℕ) (text : List ℕ) → Given o s k count text → WritesPart Says (line_of text) s.held held' → Writes Says o.held held'
  part o s held' k count text g (inl none) = (g.lines, g.written, g.told, prefix_all o.held held' g.written (appends_nothing o.held s.held held' g.written g.out none))
  part o s held' k count text g (inr (t, tells, out)) = (g.lines ++ text ∷ [], g.written ++ t, Tells.more g.lines g.written text t g.told tells, prefix_more o.held s.held held' g.written t g.out out)

  fails : (link_fails : Type 0) (o : Outside) (left : Option (List ℕ)) (reads : ℕ) (held held' : Option (List ℕ)) (writes writes' dials dials' : ℕ) (k : Coming) (count number : ℕ) (text : List ℕ) (e : MountError) → Given o (outside left reads held writes dials) k count text → number ≡ count + 1 → TextFails link_fails (line_of text) number held held' writes writes' dials dials' e → Fails Says link_fails o (outside left reads held' writes' dials') e
  fails link_fails o left reads held held' writes writes' dials dials' k count number text errors.ReadFault g is p = absurd p
  fails link_fails o left reads held held' writes writes' dials dials' k count number text errors.WriteFault g is p = rose_more o.writes writes writes' g.writes p
  fails link_fails o left reads held held' writes writes' dials dials' k count number text (errors.BadLine n) g is p = record {
    bytes = g.bytes;
    taken = g.taken;
    ended = k.ended;
    at_end = g.at_end;
    lines = g.lines;
    text = text;
    stand = λ more may. (coming k more, g.gave more may);
    counted = (let same : n ≡ number = p.0 in omega (arith, same, is, g.counted));
    bad = p.1;
    written = g.written;
    told = g.told;
    out = appends_nothing o.held held held' g.written g.out p.2;
  }
  fails link_fails o left reads held held' writes writes' dials dials' k count number text errors.Network g is (inl p) = inl (rose_more o.dials dials dials' g.dials p)
  fails link_fails o left reads held held' writes writes' dials dials' k count number text errors.Network g is (inr p) = inr p
  fails link_fails o left reads held held' writes writes' dials dials' k count number text errors.Memory g is p = tt
  fails link_fails o left reads held held' writes writes' dials dials' k count number text errors.TooLong g is p = absurd p

  -- a line wasn't run, or told
  pub untold : (link_fails : Type 0) (o : Outside) (left : Option (List ℕ)) (reads : ℕ) (held held' : Option (List ℕ)) (writes writes' dials dials' : ℕ) (k : Coming) (count number : ℕ) (text slice : List ℕ) (r : Result Unit MountError) (e : MountError) → Given o (outside left reads held writes dials) k count text → number ≡ count + 1 → r ≡ Err e → slice ≡ text → TextEnds Says link_fails (line_of slice) number held held' writes writes' dials dials' r → Ends Says link_fails o (outside left reads held' writes' dials') (Err e)
  untold link_fails o left reads held held' writes writes' dials dials' k count number text slice r e g counts is same ends =
      let p : TextEnds Says link_fails (line_of text) number held held' writes writes' dials dials' (Err e) = subst (λ (z : List ℕ). TextEnds Says link_fails (line_of z) number held held' writes writes' dials dials' (Err e)) same (subst (λ (x : Result Unit MountError). TextEnds Says link_fails (line_of slice) number held held' writes writes' dials dials' x) is ends) in
      (part o (outside left reads held writes dials) held' k count text g p.0, fails link_fails o left reads held held' writes writes' dials dials' k count number text e g counts p.1)

  -- memory ran out
  pub starved : (link_fails : Type 0) (o s : Outside) (k : Coming) (count : ℕ) → Progress o s k count → Ends Says link_fails o s (Err errors.Memory)
  starved link_fails o s k count p = ((p.lines, p.written, p.told, prefix_all o.held s.held p.written p.out), tt)

  pub starved_first : (link_fails : Type 0) (o : Outside) → Ends Says link_fails o o (Err errors.Memory)
  starved_first link_fails o = (([], [], Tells.nothing, prefix_all o.held o.held [] (appends_none o.held)), tt)

  unjoined_fails : (link_fails : Type 0) (o : Outside) (dials' : ℕ) (e : MountError) → Unjoined link_fails o.dials dials' e → Fails Says link_fails o (record o { dials = dials' }) e
  unjoined_fails link_fails o dials' errors.ReadFault p = absurd p
  unjoined_fails link_fails o dials' errors.WriteFault p = absurd p
  unjoined_fails link_fails o dials' (errors.BadLine n) p = absurd p
  unjoined_fails link_fails o dials' errors.Network p = p
  unjoined_fails link_fails o dials' errors.Memory p = tt
  unjoined_fails link_fails o dials' errors.TooLong p = absurd p

  -- no connection was joined
  pub unjoined : (link_fails : Type 0) (o : Outside) (dials' : ℕ) (e : MountError) → Unjoined link_fails o.dials dials' e → Ends Says link_fails o (record o { dials = dials' }) (Err e)
  unjoined link_fails o dials' e p = (([], [], Tells.nothing, prefix_all o.held o.held [] (appends_none o.held)), unjoined_fails link_fails o dials' e p)

  later_fails : (link_fails : Type 0) (o : Outside) (dials : ℕ) (s : Outside) (e : MountError) → o.dials ≤ dials → Fails Says link_fails (record o { dials = dials }) s e → Fails Says link_fails o s e
  later_fails link_fails o dials s errors.ReadFault later p = p
  later_fails link_fails o dials s errors.WriteFault later p = p
  later_fails link_fails o dials s (errors.BadLine n) later p = p
  later_fails link_fails o dials s errors.Network later (inl p) = inl (rose_more o.dials dials s.dials later p)
  later_fails link_fails o dials s errors.Network later (inr p) = inr p
  later_fails link_fails o dials s errors.Memory later p = tt
  later_fails link_fails o dials s errors.TooLong later p = p

  -- one was
  pub joined : (link_fails : Type 0) (o : Outside) (dials : ℕ) (s : Outside) (r : Result Unit MountError) → o.dials ≤ dials → Ends Says link_fails (record o { dials = dials }) s r → Ends Says link_fails o s r
  joined link_fails o dials s (Ok u) later p = p
  joined link_fails o dials s (Err e) later p = (p.0, later_fails link_fails o dials s e later p.1)

  -- ---- by the answer

  pub ends_writes : (link_fails : Type 0) (o s : Outside) (r : Result Unit MountError) → Ends Says link_fails o s r → Writes Says o.held s.held
  ends_writes link_fails o s (Ok u) p =
      let script = p.0 in let written = p.1 in
      (lines_of script, written, p.4, prefix_all o.held s.held written p.5)
  ends_writes link_fails o s (Err e) p = p.0

  pub writes_nothing : (held : Option (List ℕ)) → Writes Says held held
  writes_nothing held = ([], [], Tells.nothing, prefix_all held held [] (appends_none held))
