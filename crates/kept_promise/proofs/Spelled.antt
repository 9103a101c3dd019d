-- What the two ends say of a file within its bounds fits its record.
use Rattle.std.proofs.Common.{◌≡◌, ℕ, suc, ◌+◌, ◌<◌, ◌≤◌, ◌^◌, List, [], ◌∷◌, Some, None, true, false, length, drop, min, map, refl, ap, ◌∙◌, subst, arith, lit<, length-take}
use Rattle.std.proofs.lemmas.List.Elements.{All-take, All-filter}
use Rattle.sha1.specs.Sha1.{sha1, digest_bytes}
use Rattle.xdr_codec.specs.Attr.{attr_form, kind_form, time_form}
use Rattle.xdr_codec.specs.Xdr.{u32_form, u64_form, bool_form, bool_fits, fixed_form, count_form}
use Rattle.hash_calls.specs.Calls.{lease_on_form, hashes_form, leased_form, pair_form, new_temp_form, temp_piece_form, cond_piece_form, commit_form, committed_form}
use Rattle.hash_calls.specs.Calls.{range_form as hash_range_form}
use Rattle.nfs3_calls.specs.Calls.{piece_form, range_form, place_form, list_range_form, new_file_form, new_dir_form, rename_form}
use Rattle.nfs3_calls.specs.Choices.{set_attr_form, set_time_form, how_made_form}
use Rattle.wire.proofs.lemmas.Sizes.{small_fits}
use Rattle.chunk_calls.specs.Answers.{time_of}
use Rattle.kept_promise.proofs.Common.{All, slice_get, filter, All-nil, All-cons, All-map, chunks_of, chunk_bytes, Chunk, handle_bytes, Done, Failed, HashRange, Range, MessageFits, IsExpected, meets, told_chunks, pair_of, is_end, hashes_of, leased_of, piece_of, attr_of, File, Call, Call.Lease, Call.Hash, Call.Read, Call.Make, Call.Name, Call.Send, Call.Commit, Reply, Reply.Versioned, Reply.Hashed, Reply.Bytes, Reply.Made, Reply.Named, Reply.Stored, Reply.Changed, call_message, told_message, Call.Walks}
use Rattle.kept_promise.proofs.Statements.{IsSpoken, ToldFits, CallFits, CallsFit, CallsExpected, FileFits, HashAnswersFit, LeaseAnswersFit, ReadAnswersFit, IsPlain, PlainAnswersFit, AreInRow}
use Rattle.kept_promise.proofs.Chunks.{chunks_in_row, chunks_are_named, len_map}
use Rattle.path_calls.specs.Walk.{place, call_at, page_call, keeps_all, create_call, make_dir_call, rename_call}
use Rattle.path_calls.specs.declared.walk.Goal.{Goal}
use Rattle.path_calls.specs.declared.walk.Goal.TheVariants as goal
use Rattle.nfs3_calls.specs.declared.message.Nfs.TheVariants as nfs
use Rattle.wire.specs.declared.message.Body.TheVariants as body
use Rattle.wire.specs.declared.message.Message.TheVariants as message
use Rattle.kept_promise.proofs.PathNames.{AreNames, IsGoalNamed, IsAsking}
use Rattle.wire.specs.declared.message.TheConstants.{LBFS_SERVED}
use Rattle.wire.specs.declared.message.Pending.{Pending}
use Rattle.wire.specs.declared.message.Side.TheVariants as side

handle_len : (name : ℕ) → length (handle_bytes name) ≡ 16
handle_len name = refl

sha1_len : (bytes : List ℕ) → length (sha1 bytes) ≡ 20
unfolding sha1 digest_bytes
sha1_len bytes = refl

-- ---- calls

place_fits : (xid dir : ℕ) (name : List ℕ) → xid < 2 ^ 32 → length name ≤ 255 → MessageFits (message.Call xid (body.Nfs (nfs.Lookup (place dir name))))
unfolding place_form
place_fits xid dir name x short = small_fits (message.Call xid (body.Nfs (nfs.Lookup (place dir name)))) (x, (refl, (lit< tt, ((omega (arith, handle_len dir), omega (arith, handle_len dir)), (omega (arith, short), omega (arith, short)))))) (omega (arith, short))

-- no attribute is set
keeps_fit : set_attr_form.Fits keeps_all
unfolding set_attr_form set_time_form u32_form u64_form
keeps_fit = ((bool_fits false, refl), ((bool_fits false, refl), ((bool_fits false, refl), ((bool_fits false, refl), (((lit< tt, refl), refl), ((lit< tt, refl), refl))))))

-- a place is one of a directory's handle and a short name
spot_fits : (dir : ℕ) (name : List ℕ) → length name ≤ 255 → place_form.Fits (place dir name)
unfolding place_form
spot_fits dir name short = ((omega (arith, handle_len dir), omega (arith, handle_len dir)), (omega (arith, short), omega (arith, short)))

create_fits : (xid dir : ℕ) (name : List ℕ) → xid < 2 ^ 32 → length name ≤ 255 → MessageFits (message.Call xid (body.Nfs (create_call dir name)))
unfolding new_file_form how_made_form u32_form
create_fits xid dir name x short = small_fits (message.Call xid (body.Nfs (create_call dir name))) (x, (refl, (lit< tt, (spot_fits dir name short, ((lit< tt, refl), (keeps_all, refl, keeps_fit)))))) (omega (arith, short))

make_dir_fits : (xid dir : ℕ) (name : List ℕ) → xid < 2 ^ 32 → length name ≤ 255 → MessageFits (message.Call xid (body.Nfs (make_dir_call dir name)))
unfolding new_dir_form
make_dir_fits xid dir name x short = small_fits (message.Call xid (body.Nfs (make_dir_call dir name))) (x, (refl, (lit< tt, (spot_fits dir name short, keeps_fit)))) (omega (arith, short))

remove_dir_fits : (xid dir : ℕ) (name : List ℕ) → xid < 2 ^ 32 → length name ≤ 255 → MessageFits (message.Call xid (body.Nfs (nfs.RmDir (place dir name))))
remove_dir_fits xid dir name x short = small_fits (message.Call xid (body.Nfs (nfs.RmDir (place dir name)))) (x, (refl, (lit< tt, spot_fits dir name short))) (omega (arith, short))

remove_fits : (xid dir : ℕ) (name : List ℕ) → xid < 2 ^ 32 → length name ≤ 255 → MessageFits (message.Call xid (body.Nfs (nfs.Remove (place dir name))))
remove_fits xid dir name x short = small_fits (message.Call xid (body.Nfs (nfs.Remove (place dir name)))) (x, (refl, (lit< tt, spot_fits dir name short))) (omega (arith, short))

rename_fits : (xid from : ℕ) (name : List ℕ) (to : ℕ) (other : List ℕ) → xid < 2 ^ 32 → length name ≤ 255 → length other ≤ 255 → MessageFits (message.Call xid (body.Nfs (rename_call from name to other)))
unfolding rename_form
rename_fits xid from name to other x short short_to = small_fits (message.Call xid (body.Nfs (rename_call from name to other))) (x, (refl, (lit< tt, (spot_fits from name short, spot_fits to other short_to)))) (omega (arith, short, short_to))

walk_fits : (xid dir : ℕ) (left : List (List ℕ)) (g : Goal) → xid < 2 ^ 32 → AreNames left → IsGoalNamed g → IsAsking g → MessageFits (message.Call xid (body.Nfs (call_at dir left g)))
unfolding list_range_form u64_form u32_form
walk_fits xid dir (n ∷ ns) g x names aim asks = place_fits xid dir n x names.0.0.1
walk_fits xid dir [] (goal.Find name) x names aim asks = place_fits xid dir name x aim.1
walk_fits xid dir [] (goal.Rewrite name) x names aim asks = place_fits xid dir name x aim.1
walk_fits xid dir [] (goal.Look name) x names aim asks = place_fits xid dir name x aim.1
walk_fits xid dir [] goal.LookRoot x names aim asks = small_fits (message.Call xid (body.Nfs (nfs.GetAttr (handle_bytes dir)))) (x, (refl, (lit< tt, (omega (arith, handle_len dir), omega (arith, handle_len dir))))) tt
walk_fits xid dir [] (goal.List p) x names aim asks = small_fits (message.Call xid (body.Nfs (page_call dir p))) (x, (refl, (lit< tt, ((omega (arith, handle_len dir), omega (arith, handle_len dir)), (asks.0, (asks.1, lit< tt)))))) tt
walk_fits xid dir [] (goal.Make name) x names aim asks = create_fits xid dir name x aim.1
walk_fits xid dir [] (goal.MakeDir name) x names aim asks = make_dir_fits xid dir name x aim.1
walk_fits xid dir [] (goal.Remove name) x names aim asks = remove_fits xid dir name x aim.1
walk_fits xid dir [] (goal.RemoveDir name) x names aim asks = remove_dir_fits xid dir name x aim.1
walk_fits xid dir [] (goal.RenameFrom name to) x names aim asks = place_fits xid dir name x aim.0.1
walk_fits xid dir [] (goal.RenameTo from name to) x names aim asks = rename_fits xid from name dir to x aim.0.1 aim.1.1

call_fits : (xid : ℕ) (c : Call) → CallFits 1 xid c → MessageFits (call_message 1 xid c)
unfolding lease_on_form hash_range_form range_form new_temp_form cond_piece_form temp_piece_form commit_form fixed_form u64_form u32_form
call_fits xid (Lease file) f = small_fits (call_message 1 xid (Lease file)) (f.0, (refl, (lit< tt, (refl, (omega (arith, handle_len file), omega (arith, handle_len file)))))) tt
call_fits xid (Hash file offset) f = let o = f.2 in small_fits (call_message 1 xid (Hash file offset)) (f.0, (refl, (lit< tt, (refl, ((omega (arith, handle_len file), omega (arith, handle_len file)), (omega (arith, o), lit< tt)))))) tt
call_fits xid (Read file c) f = let s = f.2 in let l = f.3 in small_fits (call_message 1 xid (Read file c)) (f.0, (refl, (lit< tt, ((omega (arith, handle_len file), omega (arith, handle_len file)), (omega (arith, s), omega (arith, l)))))) tt
call_fits xid (Make temp file) f = small_fits (call_message 1 xid (Make temp file)) (f.0, (refl, (lit< tt, (refl, (f.1, (omega (arith, handle_len file), omega (arith, handle_len file))))))) tt
call_fits xid (Name temp c) f = let s = f.2 in let l = f.3 in small_fits (call_message 1 xid (Name temp c)) (f.0, (refl, (lit< tt, (refl, (f.1, (omega (arith, s), (omega (arith, l), f.4))))))) tt
call_fits xid (Send temp start bytes) f = let s = f.2 in let l = f.3 in small_fits (call_message 1 xid (Send temp start bytes)) (f.0, (refl, (lit< tt, (refl, (f.1, (omega (arith, s), (omega (arith, l), omega (arith, l)))))))) tt
call_fits xid (Commit temp file size) f = let s = f.3 in small_fits (call_message 1 xid (Commit temp file size)) (f.0, (refl, (lit< tt, (refl, (f.1, ((omega (arith, handle_len file), omega (arith, handle_len file)), (omega (arith, s), tt))))))) tt
call_fits xid (Walks w) f = walk_fits xid w.dir w.left w.goal f.0 f.1.named.0 f.1.named.1 f.1.asking

expected_at : (calls : List Pending) (xid : ℕ) (c : Call) → IsExpected (record { side = side.Server; lbfs = LBFS_SERVED; calls = calls }) (call_message 1 xid c)
expected_at calls xid (Lease file) = (refl, refl)
expected_at calls xid _ = (refl, refl)

-- one version is served: what holds of its calls holds of those of every version that is
one_is : (lbfs : ℕ) → IsSpoken lbfs → 1 ≡ lbfs
one_is lbfs s = let least = s.least in let most = s.most in omega (arith, least, most)

-- a call fits, and is expected
abbrev IsCall : List Pending → (lbfs xid : ℕ) → Call → Type 0
IsCall calls lbfs xid c = MessageFits (call_message lbfs xid c) × IsExpected (record { side = side.Server; lbfs = LBFS_SERVED; calls = calls }) (call_message lbfs xid c)

one_call : (calls : List Pending) (xid : ℕ) (c : Call) → CallFits 1 xid c → IsCall calls 1 xid c
one_call calls xid c f = (call_fits xid c f, expected_at calls xid c)

spoken_call : (calls : List Pending) (lbfs xid : ℕ) (c : Call) → IsSpoken lbfs → CallFits lbfs xid c → IsCall calls lbfs xid c
spoken_call calls lbfs xid c s = subst (λ v. CallFits v xid c → IsCall calls v xid c) (one_is lbfs s) (one_call calls xid c)

any_call : (calls : List Pending) (lbfs xid : ℕ) (c : Call) → CallFits lbfs xid c → IsCall calls lbfs xid c
any_call calls lbfs xid (Lease file) f = spoken_call calls lbfs xid (Lease file) f.2 f
any_call calls lbfs xid (Hash file offset) f = spoken_call calls lbfs xid (Hash file offset) f.3 f
any_call calls lbfs xid (Read file c) f = one_call calls xid (Read file c) f
any_call calls lbfs xid (Make temp file) f = spoken_call calls lbfs xid (Make temp file) f.3 f
any_call calls lbfs xid (Name temp c) f = spoken_call calls lbfs xid (Name temp c) f.5 f
any_call calls lbfs xid (Send temp start bytes) f = spoken_call calls lbfs xid (Send temp start bytes) f.4 f
any_call calls lbfs xid (Commit temp file size) f = spoken_call calls lbfs xid (Commit temp file size) f.4 f
any_call calls lbfs xid (Walks w) f = one_call calls xid (Walks w) f

pub calls_expected : CallsExpected
calls_expected = λ calls lbfs xid c f. (any_call calls lbfs xid c f).1

pub calls_fit : CallsFit
calls_fit = λ lbfs xid c f. any_call [] lbfs xid c f

-- ---- GETHASH

-- each of these chunks is one with a name and a length that fit
abbrev AllNamed : List Chunk → Type 0
AllNamed cs = All (λ (c : Chunk). (length c.digest ≡ 20) × (c.len ≤ 65536)) cs

chunks_named : (x : List ℕ) → AllNamed (chunks_of x)
chunks_named x = by (chunks_of x) 0 (length x) (chunks_in_row x) (λ i c at. let n = chunks_are_named x i c at in ap length n.0 ∙ sha1_len (chunk_bytes x c))
  where
    by : (cs : List Chunk) (from to : ℕ) → AreInRow from cs to → ((i : ℕ) (c : Chunk) → slice_get cs i ≡ Some c → length c.digest ≡ 20) → AllNamed cs
    by [] from to r f = All-nil (λ (c : Chunk). (length c.digest ≡ 20) × (c.len ≤ 65536))
    by (c ∷ cs) from to r f = All-cons (λ (c : Chunk). (length c.digest ≡ 20) × (c.len ≤ 65536)) c cs (f 0 c refl, r.2) (by cs (c.start + c.len) to r.3 (λ i d at. f (suc i) d at))

pairs_fit : (x : List ℕ) (r : HashRange) → (length (map pair_of (told_chunks x r)) ≤ 1024) × All (pair_form 1).Fits (map pair_of (told_chunks x r))
unfolding pair_form fixed_form u32_form
pairs_fit x r = (
  let a = len_map (told_chunks x r) in let b = length-take 1024 (filter (meets r.offset r.count) (chunks_of x)) in omega (arith, a, b),
  All-map (pair_form 1).Fits pair_of (told_chunks x r) (λ i c lt. let h = told i c lt in let l = h.1 in (h.0, omega (arith, l))),
)
  where
    told : AllNamed (told_chunks x r)
    told = All-take (λ (c : Chunk). (length c.digest ≡ 20) × (c.len ≤ 65536)) 1024 (filter (meets r.offset r.count) (chunks_of x)) (All-filter (meets r.offset r.count) (λ (c : Chunk). (length c.digest ≡ 20) × (c.len ≤ 65536)) (chunks_of x) (chunks_named x))

hashes_are : (term : ℕ) (f : File) (r : HashRange) → term < 2 ^ 32 → FileFits f → (hashes_form 1).Fits (hashes_of term f r)
unfolding hashes_form u64_form u32_form count_form
hashes_are term f r leased fit =
    let pairs = pairs_fit f.content r in
    let v = fit.1 in
    let l = fit.2 in
    (omega (arith, v), (omega (arith, leased), (omega (arith, l), (((let le = pairs.0 in omega (arith, le), pairs.0), (refl, pairs.1)), bool_fits (is_end (length f.content) r.offset (told_chunks f.content r))))))

pub hash_answers_fit : HashAnswersFit
hash_answers_fit = λ lbfs asked xid term g handle offset spoken x leased fit.
    let r : HashRange = record { lbfs = asked; handle = handle; offset = offset; count = 4294967295 } in
    let h = hashes_are term g r leased fit in
    subst (λ v. ToldFits v (record { xid = xid; reply = Hashed (Done (hashes_of term g r)) })) (one_is lbfs spoken) (small_fits (told_message (record { xid = xid; reply = Hashed (Done (hashes_of term g r)) })) (x, (refl, (1, h))) tt, h)

-- ---- READ

time_fits : (version : ℕ) → version < 2 ^ 32 → time_form.Fits (time_of version)
unfolding time_form u32_form
time_fits version small = (omega (arith, small), omega (arith, small))

attr_fits : (f : File) → FileFits f → attr_form.Fits (attr_of f)
unfolding attr_form kind_form u32_form u64_form
attr_fits f fit =
    let t = time_fits f.version fit.1 in
    let l = fit.2 in
    (lit< tt, (lit< tt, (lit< tt, (lit< tt, (lit< tt, (omega (arith, l), (omega (arith, l), (lit< tt, (lit< tt, (lit< tt, (fit.0, (t, (t, t)))))))))))))

-- ---- GETLEASE

leased_is : (term : ℕ) (f : File) → term < 2 ^ 32 → FileFits f → leased_form.Fits (leased_of term f)
unfolding leased_form u64_form u32_form
leased_is term f leased fit = let v = fit.1 in (attr_fits f fit, (omega (arith, v), omega (arith, leased)))

pub lease_answers_fit : LeaseAnswersFit
lease_answers_fit = λ lbfs xid term g x leased fit.
    let l = leased_is term g leased fit in
    (small_fits (told_message (record { xid = xid; reply = Versioned (Done (leased_of term g)) })) (x, (refl, l)) tt, l)

-- ---- bytes of a file

piece_len : (f : File) (r : Range) → length (piece_of f r).bytes ≤ 65536
piece_len f r = let l = length-take (min r.count 65536) (drop r.offset f.content) in omega (arith, l)

piece_is : (f : File) (r : Range) → FileFits f → piece_form.Fits (piece_of f r)
unfolding piece_form u32_form bool_form
piece_is f r fit =
    let len = piece_len f r in
    ((bool_fits true, attr_fits f fit), (omega (arith, len), (bool_fits _, (omega (arith, len), omega (arith, len)))))

pub read_answers_fit : ReadAnswersFit
read_answers_fit = λ lbfs xid g handle offset count x fit. (small_fits (told_message (record { xid = xid; reply = Bytes (Done (piece_of g (record { handle = handle; offset = offset; count = count }))) })) (x, (refl, piece_is g (record { handle = handle; offset = offset; count = count }) fit)) (piece_len g (record { handle = handle; offset = offset; count = count })), tt)

-- ---- all other answers

plain_fits : (lbfs xid : ℕ) (r : Reply) → xid < 2 ^ 32 → IsPlain r → ToldFits lbfs (record { xid = xid; reply = r })
unfolding committed_form u64_form u32_form
plain_fits lbfs xid (Versioned (Failed s u)) x plain = (small_fits (told_message (record { xid = xid; reply = Versioned (Failed s u) })) (x, (refl, refl)) tt, refl)
plain_fits lbfs xid (Hashed (Failed s u)) x plain = (small_fits (told_message (record { xid = xid; reply = Hashed (Failed s u) })) (x, (refl, (lbfs, refl))) tt, refl)
plain_fits lbfs xid (Bytes (Failed s None)) x plain = (small_fits (told_message (record { xid = xid; reply = Bytes (Failed s None) })) (x, (refl, (bool_fits false, refl))) tt, tt)
plain_fits lbfs xid (Made (Done u)) x plain = (small_fits (told_message (record { xid = xid; reply = Made (Done u) })) (x, (refl, refl)) tt, refl)
plain_fits lbfs xid (Made (Failed s u)) x plain = (small_fits (told_message (record { xid = xid; reply = Made (Failed s u) })) (x, (refl, refl)) tt, refl)
plain_fits lbfs xid (Named (Done u)) x plain = (small_fits (told_message (record { xid = xid; reply = Named (Done u) })) (x, (refl, refl)) tt, refl)
plain_fits lbfs xid (Named (Failed s u)) x plain = (small_fits (told_message (record { xid = xid; reply = Named (Failed s u) })) (x, (refl, refl)) tt, refl)
plain_fits lbfs xid (Stored (Done u)) x plain = (small_fits (told_message (record { xid = xid; reply = Stored (Done u) })) (x, (refl, refl)) tt, refl)
plain_fits lbfs xid (Stored (Failed s u)) x plain = (small_fits (told_message (record { xid = xid; reply = Stored (Failed s u) })) (x, (refl, refl)) tt, refl)
plain_fits lbfs xid (Changed (Failed s u)) x plain = (small_fits (told_message (record { xid = xid; reply = Changed (Failed s u) })) (x, (refl, refl)) tt, refl)
plain_fits lbfs xid (Changed (Done c)) x plain = let v = plain.0 in let t = plain.1 in (small_fits (told_message (record { xid = xid; reply = Changed (Done c) })) (x, (refl, (omega (arith, v), omega (arith, t)))) tt, (omega (arith, v), omega (arith, t)))
plain_fits lbfs xid _ x plain = absurd plain

pub plain_answers_fit : PlainAnswersFit
plain_answers_fit = λ lbfs xid r x plain. plain_fits lbfs xid r x plain
