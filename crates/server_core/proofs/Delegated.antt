-- The calls of LBFS but COMMITTMP, which `chunk_calls` does, are those of the server's step.
use Rattle.std.proofs.Common.{◌≡◌, refl, sym, ap, ◌∙◌, subst, ℕ, List, length, Option, Some, None, Result, Ok, Err, Bool, true, false, true≢false}
use Rattle.std.specs.Prelude.{◌==◌}
use Rattle.xdr_codec.specs.declared.answer.Answer.{Answer}
use Rattle.xdr_codec.specs.declared.status.Status.{Status}
use Rattle.hash_calls.specs.declared.call.CondPiece.{CondPiece}
use Rattle.hash_calls.specs.declared.call.TempPiece.{TempPiece}
use Rattle.hash_calls.specs.declared.message.Lb.{Lb}
use Rattle.hash_calls.specs.declared.message.Lb.TheVariants as lb
use Rattle.wire.specs.declared.message.Body.TheVariants as body
use Rattle.wire.specs.declared.message.Message.TheVariants as message
use Rattle.chunk_index.specs.Index.{Indexed, key_of, place_of, found}
use Rattle.temp_files.specs.Temps.{Temp, Temps, temp_at, room_fault, piece_fault}
use Rattle.chunk_cut.specs.declared.chunk.Chunk.{Chunk}
use Rattle.chunk_calls.specs.Answers.{Node, directory, file as a_file, node_of, target_in, IsFile}
use Rattle.lease_rules.specs.declared.lease.Lease.{Lease}
use Rattle.server_core.specs.Leasing.{with_granted_on}
use Rattle.server_core.specs.Recalling.{file_in, term_on, leased_file}
use Rattle.chunk_calls.specs.Calling.{Called, calls, is_committmp, Takes, index_left, chunks_entered, LeavesPlaces}
use Rattle.chunk_calls.specs.Entering.{IsLacking}
use Rattle.chunk_calls.specs.Writing.{made, made_unless, wrote_unless, named_unless, named_bytes, cond_fault, bytes_known}
use Rattle.server_core.specs.declared.event.ServerStep.{ServerStep}
use Rattle.server_core.specs.Closing.{makes, makes_unless, writes_unless, names_unless, names_bytes}
use Rattle.server_core.specs.Steps.{to, told_if}
use Rattle.server_core.specs.State.{State, FileChange}
use Rattle.server_core.specs.Step.{called, chunks_called, missed_call, TakesMemory, Lacks}

-- what is left, where the session is granted a lease on this file, if on any
abbrev left_by : State → (leases : List Lease) → Called → State
left_by s leases c = record s { temps = c.temps; index = c.index; leasing = record s.leasing { leases = leases } }

-- what a call comes to, told this term
abbrev comes_to : State → (session term : ℕ) → Lb → Called
comes_to s session term m = calls s.tree s.temps s.index session term m

-- the leases that stand then
abbrev leases_then : State → (session : ℕ) → (file : Option ℕ) → (term : ℕ) → List Lease
leases_then s session file term = with_granted_on s.leasing.leases s.leasing.moment session file term

abbrev called_with : State → (session xid : ℕ) → (file : Option ℕ) → (term : ℕ) → Lb → State × ServerStep
called_with s session xid file term m = (left_by s (leases_then s session file term) (comes_to s session term m), told_if session xid (comes_to s session term m).answer)

abbrev Agrees : State → (session xid : ℕ) → Lb → Type 0
Agrees s session xid m = called s session xid (body.Lb m) ≡ called_with s session xid (leased_file s.tree m) (term_on s (leased_file s.tree m)) m

module _ (s : State) (session xid : ℕ) where
  -- what is made of the temporary files and of the index, and answered
  abbrev by_answer : (Answer Unit Unit → Lb) → Temps → Indexed → Answer Unit Unit → State × ServerStep
  by_answer f temps index a = (record s { temps = temps; index = index }, to session (message.Answer xid (body.Lb (f a))))

  made_agrees : (fd target : ℕ) (o : Option Status) → makes_unless s session xid fd target o ≡ (let p = made_unless s.temps session fd target o in by_answer (λ a. lb.MkTmpFileAnswer a) p.0 s.index p.1)
  made_agrees fd target None = refl
  made_agrees fd target (Some e) = refl

  makes_agree : (fd : ℕ) (n : Result Node Status) → makes s session xid fd n ≡ (let p = made s.temps session fd (target_in n) in by_answer (λ a. lb.MkTmpFileAnswer a) p.0 s.index p.1)
  makes_agree fd (Err e) = refl
  makes_agree fd (Ok directory) = refl
  makes_agree fd (Ok (a_file f)) = made_agrees fd f.id (room_fault s.temps session fd)

  writes_agree : (a : TempPiece) (t : Option Temp) (o : Option Status) → writes_unless s session xid a t o ≡ (let p = wrote_unless s.temps a t o in by_answer (λ r. lb.TmpWriteAnswer r) p.0 s.index p.1)
  writes_agree a None None = refl
  writes_agree a None (Some e) = refl
  writes_agree a (Some t) None = refl
  writes_agree a (Some t) (Some e) = refl

  bytes_agree : (a : CondPiece) (t : Option Temp) (b : Option (List ℕ)) (index : Indexed) → names_bytes (record s { index = index }) session xid a t b ≡ (let n = named_bytes s.temps index a t b in by_answer (λ r. lb.CondWriteAnswer r) n.temps n.index n.answer)
  bytes_agree a None None index = refl
  bytes_agree a None (Some b) index = refl
  bytes_agree a (Some t) None index = refl
  bytes_agree a (Some t) (Some b) index = refl

  names_agree : (a : CondPiece) (t : Option Temp) (o : Option Status) → names_unless s session xid a t o ≡ (let n = named_unless s.tree s.temps s.index a t o in by_answer (λ r. lb.CondWriteAnswer r) n.temps n.index n.answer)
  names_agree a t (Some e) = refl
  names_agree a t None = bytes_agree a t (bytes_known s.tree a (place_of s.index.pairs (key_of a.digest))) (found s.index (key_of a.digest))

  pub called_agrees : (m : Lb) → is_committmp m ≡ false → Agrees s session xid m
  called_agrees (lb.CommitTmp a) other = absurd (true≢false other)
  called_agrees (lb.MkTmpFile a) other = makes_agree a.fd (node_of s.tree a.handle)
  called_agrees (lb.TmpWrite a) other = writes_agree a (temp_at s.temps session a.fd) (piece_fault (temp_at s.temps session a.fd) a.offset (length a.bytes))
  called_agrees (lb.CondWrite a) other = names_agree a (temp_at s.temps session a.fd) (cond_fault a (temp_at s.temps session a.fd))
  called_agrees m other = refl

  entered_agree : (m : Lb) → chunks_entered s.tree m ≡ chunks_called s (body.Lb m)
  entered_agree (lb.GetHash r) = refl
  entered_agree m = refl

  -- ---- what it is, by what the call came to

  module _ (m : Lb) (file : Option ℕ) (term : ℕ) (named : file ≡ leased_file s.tree m) (lasts : term ≡ term_on s file) (other : is_committmp m ≡ false) where
    pub called_by : called s session xid (body.Lb m) ≡ called_with s session xid file term m
    called_by =
        called_agrees m other
        ∙ ap (λ (f : Option ℕ). called_with s session xid f (term_on s f) m) (sym named)
        ∙ ap (λ (t : ℕ). called_with s session xid file t m) (sym lasts)

    module _ (temps : Temps) (index : Indexed) (waiting : List FileChange) (leases : List Lease) (told : Option Lb) (left : Bool) (o : ServerStep)
        (waits : waiting ≡ s.waiting) (granted : leases ≡ leases_then s session file term) (said : o ≡ told_if session xid told) where
      abbrev after : State
      after = record s { temps = temps; index = index; waiting = waiting; leasing = record s.leasing { leases = leases } }

      -- the state, where the call left these
      after_is : left_by s (leases_then s session file term) (record { temps = temps; index = index; answer = told }) ≡ after
      after_is =
          ap (λ (l : List Lease). left_by s l (record { temps = temps; index = index; answer = told })) (sym granted)
          ∙ ap (λ (l : List FileChange). record s { temps = temps; index = index; waiting = l; leasing = record s.leasing { leases = leases } }) (sym waits)

      pub called_is : (left ≡ false → comes_to s session term m ≡ record { temps = temps; index = index; answer = told }) → left ≡ false → called s session xid (body.Lb m) ≡ (after, record o { missed = left })
      called_is is whole =
          called_by
          ∙ ap (λ (c : Called). (left_by s (leases_then s session file term) c, told_if session xid c.answer)) (is whole)
          ∙ ap (λ (t : State). (t, told_if session xid told)) after_is
          ∙ ap (λ (x : ServerStep). (after, x)) (says told)
          ∙ ap (λ (b : Bool). (after, record (told_if session xid told) { missed = b })) (sym whole)
          ∙ ap (λ (x : ServerStep). (after, record x { missed = left })) (sym said)
        where
          -- nothing is missed
          says : (t : Option Lb) → told_if session xid t ≡ record (told_if session xid t) { missed = false }
          says None = refl
          says (Some x) = refl

      -- and where places are left out
      pub called_lacks : (left ≡ true → LeavesPlaces s.tree s.temps s.index session term m (record { temps = temps; index = index; answer = told })) → left ≡ true
          → Lacks s.index (chunks_called s (body.Lb m)) (called s session xid (body.Lb m)) after (record o { missed = left })
      called_lacks leaves some =
          subst (λ (p : State × ServerStep). Lacks s.index (chunks_called s (body.Lb m)) p after (record o { missed = left })) (sym called_by) (
            index,
            subst (λ (e : Option (ℕ × List Chunk)). IsLacking s.index e index) (entered_agree m) (leaves some).0,
            sym after_is ∙ ap (λ (c : Called). left_by s (leases_then s session file term) c) (leaves some).1,
            ap (λ (b : Bool). record o { missed = b }) some
                ∙ ap (λ (x : ServerStep). record x { missed = true }) said
                ∙ ap (λ (c : Called). record (told_if session xid c.answer) { missed = true }) (leaves some).1,
          )

  -- ---- running out of memory

  pub takes_memory : (m : Lb) → Takes s.tree s.temps s.index session m → TakesMemory s session (body.Lb m)
  takes_memory (lb.GetHash r) t = t
  takes_memory (lb.MkTmpFile a) t = t
  takes_memory (lb.TmpWrite a) t = t
  takes_memory (lb.CondWrite a) t = t
  takes_memory m t = absurd t

  is_file : (n : Result Node Status) → (term_on s (file_in n) == 0) ≡ false → IsFile n
  is_file (Err e) none = absurd (true≢false none)
  is_file (Ok directory) none = absurd (true≢false none)
  is_file (Ok (a_file f)) none = tt

  -- a lease takes memory, which is that of a GETLEASE or GETHASH
  lease_takes : (m : Lb) → (term_on s (leased_file s.tree m) == 0) ≡ false → TakesMemory s session (body.Lb m)
  lease_takes (lb.GetLease z) some = some
  lease_takes (lb.GetHash r) some = is_file (node_of s.tree r.handle) some
  lease_takes m some = absurd (true≢false some)

  -- and neither looks a digest up
  lease_misses : (m : Lb) → (term_on s (leased_file s.tree m) == 0) ≡ false → s ≡ missed_call s (body.Lb m)
  lease_misses (lb.CondWrite a) some = absurd (true≢false some)
  lease_misses m some = refl

  leased_some : (m : Lb) (file : Option ℕ) (term : ℕ) → file ≡ leased_file s.tree m → term ≡ term_on s file → (term == 0) ≡ false → (term_on s (leased_file s.tree m) == 0) ≡ false
  leased_some m file term named lasts some = ap (λ (f : Option ℕ). term_on s f == 0) (sym named) ∙ ap (λ (t : ℕ). t == 0) (sym lasts) ∙ some

  pub place_takes : (m : Lb) (file : Option ℕ) (term : ℕ) → file ≡ leased_file s.tree m → term ≡ term_on s file → (term == 0) ≡ false → TakesMemory s session (body.Lb m)
  place_takes m file term named lasts some = lease_takes m (leased_some m file term named lasts some)

  abbrev state_with : List FileChange → List Lease → State
  state_with waiting leases = record s { waiting = waiting; leasing = record s.leasing { leases = leases } }

  pub place_missed : (m : Lb) (file : Option ℕ) (term : ℕ) (waiting : List FileChange) (leases : List Lease) → file ≡ leased_file s.tree m → term ≡ term_on s file → (term == 0) ≡ false → waiting ≡ s.waiting → leases ≡ s.leasing.leases
      → state_with waiting leases ≡ missed_call s (body.Lb m)
  place_missed m file term waiting leases named lasts some waits same =
      ap (λ (l : List FileChange). state_with l leases) waits
      ∙ ap (λ (l : List Lease). state_with s.waiting l) same
      ∙ lease_misses m (leased_some m file term named lasts some)

  pub missed_agrees : (m : Lb) → record s { index = index_left s.index m } ≡ missed_call s (body.Lb m)
  missed_agrees (lb.CondWrite a) = refl
  missed_agrees m = refl

  pub missed_is : (m : Lb) (temps : Temps) (index : Indexed) (waiting : List FileChange) (leases : List Lease) → temps ≡ s.temps → index ≡ index_left s.index m → waiting ≡ s.waiting → leases ≡ s.leasing.leases
      → record s { temps = temps; index = index; waiting = waiting; leasing = record s.leasing { leases = leases } } ≡ missed_call s (body.Lb m)
  missed_is m temps index waiting leases same left waits stand =
      ap (λ (l : Temps). record s { temps = l; index = index; waiting = waiting; leasing = record s.leasing { leases = leases } }) same
      ∙ ap (λ (l : List FileChange). record s { index = index; waiting = l; leasing = record s.leasing { leases = leases } }) waits
      ∙ ap (λ (l : List Lease). record s { index = index; leasing = record s.leasing { leases = l } }) stand
      ∙ ap (λ (i : Indexed). record s { index = i }) left
      ∙ missed_agrees m

-- what `call_chunks` goes by
pub ruleset by_call_chunks = (takes_memory, missed_is, place_takes, place_missed)
