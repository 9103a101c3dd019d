-- What was a file is one still, or it is gone: it is no directory.
use Rattle.std.proofs.Common.{◌⊎◌, inl, inr, ◌≡◌, ℕ, ◌+◌, ◌<◌, List, Some, None, Ok, Err, false, ap, ◌∙◌, subst, arith}
use Rattle.xdr_codec.specs.declared.status.Status.TheVariants as status
use Rattle.tree_nodes.specs.declared.node.Node.{Node as TreeNode}
use Rattle.tree_reading.specs.Tree.{directory_of}
use Rattle.server_core.specs.State as server
use Rattle.chunk_calls.specs.Files as the_files
use Rattle.register_model.specs.declared.op.Word.TheVariants as words
use Rattle.kept_promise.proofs.Common.{slice_get, handle_bytes, file, node_of, File, Op, Core, Seat, numbered, Book, Queue, value_at}
use Rattle.kept_promise.proofs.Rights.{WasThere}
use Rattle.kept_promise.proofs.Remains.{there_version}
use Rattle.kept_promise.proofs.Unused.{directory_unused}
use Rattle.kept_promise.proofs.Growth.{value_later}
use Rattle.kept_promise.proofs.History.{onward, grows_same}
use Rattle.kept_promise.proofs.Messages.{Job, job, stage_word}
use Rattle.kept_promise.proofs.Orderly.{Went}
use Rattle.kept_promise.proofs.Facts.{FileIs, IsServer, IsKept, is_naming}
use Rattle.kept_promise.proofs.Tells.{Found, is_directory, is_gone, is_file, looked}

pub no_directory : (book : Book) (s : server.State) (f : ℕ) (n : TreeNode) → IsServer book s → WasThere book f → directory_of s.tree.nodes f ≡ Ok n → ⊥
no_directory book s f n h there e = there_version book f there (h.fresh f (directory_unused s.tree f n e))

-- it is in the tree
abbrev pub IsStill : (s : server.State) (f : ℕ) → Type 0
IsStill s f = (z : File) × (the_files.file_at s.tree f ≡ Some z) × (node_of s.tree (handle_bytes f) ≡ Ok (file z))

-- or no longer
abbrev pub IsNone : (book : Book) (s : server.State) (f : ℕ) → Type 0
IsNone book s f = (the_files.file_at s.tree f ≡ None) × (node_of s.tree (handle_bytes f) ≡ Err status.Stale) × (value_at book f (book.steps + 1) ≡ None)

pub still_or_none : (book : Book) (s : server.State) (f : ℕ) → IsServer book s → WasThere book f → f < 18446744073709551616 → IsStill s f ⊎ IsNone book s f
still_or_none book s f h there lt = by (looked s.tree f lt)
  where
    by : Found s.tree f → IsStill s f ⊎ IsNone book s f
    by (is_directory n at none e) = absurd (no_directory book s f n h there at)
    by (is_gone none e) = inr (none, e, subst (FileIs book f) none (h.held f))
    by (is_file z at e) = inl (z, at, e)

-- a close was there as its file is gone
pub close_gone : (book : Book) (k : Core) (qs : List Queue) (i : ℕ) (seat : Seat) (j : Job) → IsKept book k qs → numbered k.seats i ≡ Some seat → job seat ≡ Some j → stage_word j.stage ≡ words.Close → is_naming j.stage ≡ false → value_at book j.file (book.steps + 1) ≡ None
    → (o : Op) × (slice_get book.ops j.place ≡ Some o) × (o.word ≡ words.Close) × Went (onward book 1 book.ops) o
close_gone book k qs i seat j kept here is close named gone =
    let of = (kept.seats i seat here).task j is in
    let begun = (kept.sound.rights j.place of.op of.there).begun in (
      of.op,
      of.there,
      of.word ∙ close,
      record {
        step = book.steps + 1;
        after = omega (arith, begun);
        before = omega arith;
        value_is = value_later book (onward book 1 book.ops) None None of.op.file (book.steps + 1) (grows_same book 1) (omega arith) ∙ ap (λ (f : ℕ). value_at book f (book.steps + 1)) (of.file named) ∙ gone;
      },
    )
