-- A commit that waits is made once it is taken out, where its file is there: it has its room.
use Rattle.std.proofs.Common.{◌≡◌, ℕ, ◌+◌, List, [], ◌∷◌, ◌++◌, length, Option, Some, Result, Ok, Err, ap, ◌∙◌, arith, false}
use Rattle.xdr_codec.specs.declared.answer.Answer.{Answer}
use Rattle.xdr_codec.specs.declared.answer.Answer.TheVariants.{Failed}
use Rattle.xdr_codec.specs.declared.status.Status.{Status}
use Rattle.hash_calls.specs.declared.call.Committed.{Committed}
use Rattle.chunk_index.specs.Places.{indexed}
use Rattle.tree_reading.specs.Plans.{commit_entry}
use Rattle.file_tree.specs.Step.{replace, replaced}
use Rattle.file_tree.specs.Stores.{stored}
use Rattle.tree_reading.specs.Tree.{Tree}
use Rattle.tree_reading.specs.declared.call.Changed.{Changed}
use Rattle.tree_reading.specs.declared.call.Reservation.{Reservation}
use Rattle.tree_reading.specs.declared.entry.Entry.{Entry as TreeEntry}
use Rattle.tree_calls.specs.Waiting.{committed, gives_content}
use Rattle.tree_calls.specs.declared.asked.Committing.{Committing}
use Rattle.hash_calls.specs.declared.message.Lb.TheVariants as lb
use Rattle.wire.specs.declared.message.Body.TheVariants as body
use Rattle.server_core.specs.State as server
use Rattle.chunk_calls.specs.Files as the_files
use Rattle.server_core.specs.declared.change.Wanted.TheVariants as wanted
use Rattle.server_core.specs.Closing.{told_change, makes_change, committed_by}
use Rattle.server_core.specs.Leasing.{granted}
use Rattle.server_core.specs.Recalling.{term_at}
use Rattle.kept_promise.proofs.Common.{chunks_of, Done, at, entry_by, FileChange, ServerStep, File, Entry, Book}
use Rattle.kept_promise.proofs.Messages.{content_wanted}
use Rattle.server_law.proofs.lemmas.TreeCalls.{HasRoom, commits_made}
use Rattle.kept_promise.proofs.TakenOut.{IsOut}
use Rattle.kept_promise.proofs.Facts.{IsServer}

-- what the journal tells of it
abbrev pub entry_of : FileChange → List ℕ → File → Entry
entry_of c x f = entry_by c.session (commit_entry c.file (f.version + 1) x)

-- what comes of it: its session is told a term, and gets the lease
abbrev pub made_change : server.State → FileChange → List ℕ → File → server.State × ServerStep
made_change s c x f = (
  record s { tree = replaced s.tree c.file (f.version + 1) x; journal = s.journal ++ entry_of c x f ∷ []; index = indexed s.index c.file (chunks_of x); leasing = granted s.leasing c.session c.file (term_at s c.file) },
  told_change c 1 (body.Lb (lb.CommitTmpAnswer (Done (record { version = f.version + 1; term = term_at s c.file })))),
)

-- whatever term is told
told_term : (v : ℕ) (e : Option TreeEntry) (r : Result Changed Status) (term : ℕ) → committed 0 r ≡ record { answer = Done (record { version = v; term = 0 }); entry = e } → committed term r ≡ record { answer = Done (record { version = v; term = term }); entry = e }
told_term v e (Ok x) term is =
    let version = done_is (ap (λ (z : Committing). z.answer) is) in
    ap (λ (n : ℕ). record { answer = Done (record { version = n; term = term }); entry = x.first }) version
    ∙ ap (λ (o : Option TreeEntry). record { answer = Done (record { version = v; term = term }); entry = o }) (ap (λ (z : Committing). z.entry) is)
  where
    done_is : ◌≡◌ {A = Answer Committed Unit} (Done (record { version = x.version; term = 0 })) (Done (record { version = v; term = 0 })) → x.version ≡ v
    done_is q = ap (λ (c : Committed). c.version) (same q)
      where
        same : {a b : Committed} → ◌≡◌ {A = Answer Committed Unit} (Done a) (Done b) → a ≡ b
        same q = cc
told_term v e (Err s) term is = absurd (failed (ap (λ (z : Committing). z.answer) is))
  where
    failed : ◌≡◌ {A = Answer Committed Unit} (Failed s tt) (Done (record { version = v; term = 0 })) → ⊥
    failed q = absurd cc

commits_told : (t : Tree) (held : Reservation) (id : ℕ) (content : List ℕ) (term : ℕ) (g : File) → the_files.file_at t id ≡ Some g → HasRoom t held content → gives_content t held id content term ≡ (replaced t id (g.version + 1) content, record { answer = Done (record { version = g.version + 1; term = term }); entry = Some (commit_entry id (g.version + 1) content) })
commits_told t held id content term g at room =
    let p : Tree × Result Changed Status = stored false t (replace t held id content) in
    let is = commits_made t held id content g at room in
    ap (λ (u : Tree). (u, committed term p.1)) (ap (λ (z : Tree × Committing). z.0) is)
    ∙ ap (λ (z : Committing). (replaced t id (g.version + 1) content, z)) (told_term (g.version + 1) (Some (commit_entry id (g.version + 1) content)) p.1 term (ap (λ (z : Tree × Committing). z.1) is))

-- there is room for it, beside the others that wait
pub room_there : (book : Book) (s : server.State) (c : FileChange) (cs : List FileChange) → IsServer book s → IsOut s.waiting c cs → c.what ≡ wanted.Content (content_wanted c.what) → HasRoom s.tree (server.held cs) (content_wanted c.what)
room_there book s c cs h out what =
    let count = h.changes in
    let bytes = h.bytes in
    let entries = out.entries in
    let sizes = out.bytes in
    let one : server.entries_wanted c.what ≡ 1 = ap server.entries_wanted what in
    let size : server.size_wanted c.what ≡ length (content_wanted c.what) = ap server.size_wanted what in
    record {
      count = omega (arith, count, entries, one);
      short = h.lengths out.place c out.there;
      small = omega (arith, bytes, sizes, size);
    }

pub made_is : (book : Book) (s : server.State) (now : ℕ) (c : FileChange) (cs : List FileChange) (f : File) → IsServer book s → IsOut s.waiting c cs → the_files.file_at s.tree c.file ≡ Some f → c.what ≡ wanted.Content (content_wanted c.what) → makes_change (at (record s { waiting = cs }) now) c c.what ≡ made_change (at (record s { waiting = cs }) now) c (content_wanted c.what) f
made_is book s now c cs f h out there what =
    ap (makes_change (at (record s { waiting = cs }) now) c) what
    ∙ ap (committed_by (at (record s { waiting = cs }) now) c (content_wanted c.what)) (commits_told s.tree (server.held cs) c.file (content_wanted c.what) (term_at (record s { waiting = cs }) c.file) f there (room_there book s c cs h out what))
