-- What the server tells of leases, and asks for: terms and RECALLs have a record.
use Rattle.std.proofs.Common.{◌≡◌, ℕ, ◌+◌, ◌<◌, List, [], ◌∷◌, ◌++◌, Option, Some, None, Bool, true, false, refl, sym, subst, arith, map, append-nil}
use Rattle.std.specs.Prelude.{cond, filter, nat_lt, if◌then◌else◌}
use Rattle.std.specs.List.{AllByRecursion}
use Rattle.std.proofs.lemmas.Bool.Decides.{nat_tests}
use Rattle.limits.specs.declared.TheConstants.{XIDS_MOST}
use Rattle.lease_rules.specs.Leases.{term_for}
use Rattle.lease_rules.specs.Changes.{asker}
use Rattle.lease_rules.specs.Xids.{draw}
use Rattle.lease_rules.specs.declared.change.Recall.{Recall}
use Rattle.lease_table.specs.Leases.{others}
use Rattle.callback_core.specs.BackCalls.{BackCall, xid_at, asks_if, asked_with, asks}
use Rattle.callback_core.specs.Waits.{recall_of, recalls_of, waits_on}
use Rattle.callback_core.specs.declared.back_calls.Asked.{Asked}
use Rattle.server_core.specs.Leasing.{asking, term_if}
use Rattle.server_core.specs.Recalling.{recalls_for, recall_sent}
use Rattle.server_core.specs.State as server
use Rattle.kept_promise.proofs.Common.{FileChange, stands}
use Rattle.kept_promise.proofs.Lists.{some_is}
use Rattle.kept_promise.proofs.Leading.{IsFit, sent_message}

-- ---- terms

term_for_small : (b : Bool) (term : ℕ) → term < 4294967296 → term_for b term < 4294967296
term_for_small true term h = omega arith
term_for_small false term h = h

-- what is told of a file's lease is the server's term, or 0
pub term_small : (term : ℕ) (waiting : List FileChange) (f : Option ℕ) → term < 4294967296 → term_if term waiting f < 4294967296
term_small term waiting None h = omega arith
term_small term waiting (Some id) h = term_for_small (waits_on waiting id) term h

-- ---- RECALLs

xid_small : (last x : ℕ) → draw last ≡ Some x → x < 4294967296
xid_small last x e = by (nat_lt last XIDS_MOST) refl e
  where
    by : (b : Bool) → nat_lt last XIDS_MOST ≡ b → (let o : Option ℕ = if b then Some (last + 1) else None in o ≡ Some x) → x < 4294967296
    by true lt e = let is = some_is (last + 1) x e in let less : last < XIDS_MOST = grind (arith, nat_tests, lt) in omega (arith, is, less)
    by false lt e = absurd cc

-- all are of this file
abbrev AreOf : (file : ℕ) → List Recall → Type 0
AreOf file rs = AllByRecursion (λ (r : Recall). r.file ≡ file) rs

recalled_of : (file : ℕ) (sessions : List ℕ) → AreOf file (map (recall_of file) sessions)
recalled_of file [] = tt
recalled_of file (n ∷ ns) = (refl, recalled_of file ns)

some_of : (file : ℕ) (keep : Recall → Bool) (rs : List Recall) → AreOf file rs → AreOf file (filter keep rs)
some_of file keep [] h = tt
some_of file keep (r ∷ rs) h = by (keep r) (some_of file keep rs h.1)
  where
    by : (b : Bool) → AreOf file (filter keep rs) → AreOf file (cond b (r ∷ filter keep rs) (filter keep rs))
    by true later = (h.0, later)
    by false later = later

asked_fit : (calls : List BackCall) (rs : List Recall) (file : ℕ) → file < 18446744073709551616 → AreOf file rs → AllByRecursion IsFit (asks calls rs).1
asked_fit calls [] file small h = tt
asked_fit calls (r ∷ rs) file small h = by (xid_at calls r.session) refl (asked_fit (asks_if calls r.session (xid_at calls r.session)) rs file small h.1)
  where
    later : List Asked
    later = (asks (asks_if calls r.session (xid_at calls r.session)) rs).1

    by : (o : Option ℕ) → xid_at calls r.session ≡ o → AllByRecursion IsFit later → AllByRecursion IsFit (asked_with r o ++ later)
    by None e rest = rest
    by (Some xid) e rest = ((xid_small _ xid e, subst (λ (f : ℕ). f < 18446744073709551616) (sym h.0) small), rest)

-- what a change asks for when it comes
abbrev pub recalls_asked : server.State → FileChange → List Asked
recalls_asked s c = (asking s.leasing (recalls_for s c)).1

pub recalls_small : (s : server.State) (c : FileChange) → c.file < 18446744073709551616 → AllByRecursion IsFit (recalls_asked s c)
recalls_small s c small = asked_fit s.leasing.calls (recalls_for s c) c.file small (some_of c.file (λ r. stands s r.session) (recalls_of s.leasing.leases (asker c) c.file s.leasing.moment) (recalled_of c.file (others s.leasing.leases (asker c) c.file s.leasing.moment)))

-- they are all that is sent
pub recalls_alone : (rs : List Asked) → map recall_sent rs ≡ map recall_sent rs ++ map sent_message []
recalls_alone rs = sym (append-nil (map recall_sent rs))
