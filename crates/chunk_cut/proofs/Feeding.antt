-- What a cutter knows after a piece.
use Rattle.std.proofs.Common.{◌≡◌, ℕ, ◌+◌, ◌-◌, List, [], ◌∷◌, ◌++◌, length, take, drop, sym, ap, subst, ◌∙◌, append_assoc, arith}
use Rattle.std.proofs.lemmas.List.{length-append, length-drop, drop-append-le, drop_all, take_all, take_rest}
use Rattle.std.proofs.Math.Seq.{take-add}
use Rattle.sha1.specs.Sha1.{Holds, sha1}
use Rattle.sha1.specs.declared.Sha1.{Sha1}
use Rattle.chunk_cut.specs.Ends.{IsOpen, IsLeastEnd}
use Rattle.chunk_cut.specs.Search.{last_cut, open_at}
use Rattle.chunk_cut.specs.Chunks.{chunk_at, complete}
use Rattle.chunk_cut.specs.Cutting.{IsUnderWay, IsFed, fed}
use Rattle.chunk_cut.specs.declared.cutter.Cutter.{Cutter}
use Rattle.chunk_cut.specs.declared.chunk.Chunk.{Chunk}
use Rattle.chunk_cut.proofs.Chains.{is_open_late, closed_unchanged, complete_unchanged, open_at_end, complete_one_more}
use Rattle.chunk_cut.proofs.Windows.{recent_none}

-- the bytes of the chunk under way
bytes_more : (content more : List ℕ) (s len : ℕ) → s + len ≡ length content → drop s (content ++ more) ≡ drop s content ++ more
bytes_more content more s len size = drop-append-le s content more (omega arith)

-- the chunk goes on
pub went_on : (content more : List ℕ) (old new : Cutter) (window : List ℕ) → IsFed old content
    → IsUnderWay (content ++ more) old.start (old.len + length more) window
    → new ≡ record { window = window; hasher = new.hasher; start = old.start; len = old.len + length more }
    → Holds new.hasher (drop old.start content ++ more)
    → IsFed new (content ++ more)
went_on content more old new window was under is hashed =
    let open_is : open_at (content ++ more) ≡ open_at content = ap (λ (es : List ℕ). last_cut 0 es) (closed_unchanged content more (subst (λ (s : ℕ). IsOpen (content ++ more) s) was.start under.goes_on)) in
    let e1 : new.start ≡ old.start = ap (λ (c : Cutter). c.start) is in
    let e2 : new.len ≡ old.len + length more = ap (λ (c : Cutter). c.len) is in
    let e3 : new.window ≡ window = ap (λ (c : Cutter). c.window) is in
    let e4 : drop old.start content ++ more ≡ drop new.start (content ++ more) = sym (bytes_more content more old.start old.len was.under_way.size) ∙ ap (λ (n : ℕ). drop n (content ++ more)) (sym e1) in
    record {
      start = e1 ∙ was.start ∙ sym open_is;
      under_way = moved (content ++ more) _ _ _ _ _ _ (sym e1) (sym e2) (sym e3) under;
      hashed = subst (λ (xs : List ℕ). Holds new.hasher xs) e4 hashed;
    }
  where
    moved : (content : List ℕ) (s t m n : ℕ) (v w : List ℕ) → s ≡ t → m ≡ n → v ≡ w → IsUnderWay content s m v → IsUnderWay content t n w
    moved content s t m n v w p q r u =
        subst (λ (x : ℕ). IsUnderWay content x n w) p
        (subst (λ (x : ℕ). IsUnderWay content s x w) q
        (subst (λ (xs : List ℕ). IsUnderWay content s m xs) r u))

pub none_completed : (content more : List ℕ) (old : Cutter) (window : List ℕ) → IsFed old content → IsUnderWay (content ++ more) old.start (old.len + length more) window → complete (content ++ more) ≡ complete content
none_completed content more old window was under =
    complete_unchanged content more (subst (λ (s : ℕ). IsOpen (content ++ more) s) was.start under.goes_on)

-- the chunk ends
closed_at : (content more : List ℕ) (old new : Cutter) (window : List ℕ) → IsFed old content → length window ≡ 48
    → IsLeastEnd (content ++ more) old.start (length (content ++ more))
    → new ≡ record { window = window; hasher = new.hasher; start = old.start + (old.len + length more); len = 0 }
    → Holds new.hasher []
    → IsFed new (content ++ more)
closed_at content more old new window was full least is hashed =
    let all : List ℕ = content ++ more in
    let size : old.start + old.len ≡ length content = was.under_way.size in
    let count : length all ≡ length content + length more = length-append content more in
    let e1 : new.start ≡ length all = ap (λ (c : Cutter). c.start) is ∙ omega arith in
    let e2 : new.len ≡ 0 = ap (λ (c : Cutter). c.len) is in
    let e3 : new.window ≡ window = ap (λ (c : Cutter). c.window) is in
    let e4 : open_at all ≡ length all = open_at_end content more (subst (λ (s : ℕ). IsLeastEnd all s (length all)) was.start least) in
    record {
      start = e1 ∙ sym e4;
      under_way = record {
        size = omega arith;
        goes_on = is_open_late all new.start (omega arith);
        full = ap (λ (xs : List ℕ). length xs) e3 ∙ full;
        recent = recent_none all new.len new.window (omega arith) (ap (λ (xs : List ℕ). length xs) e3 ∙ full);
      };
      hashed = subst (λ (xs : List ℕ). Holds new.hasher xs) (sym (drop_all new.start all (omega arith))) hashed;
    }

pub one_completed : (content more : List ℕ) (old : Cutter) (chunk : Chunk) → IsFed old content
    → IsLeastEnd (content ++ more) old.start (length (content ++ more))
    → chunk ≡ record { start = old.start; len = old.len + length more; digest = sha1 (drop old.start content ++ more) }
    → complete (content ++ more) ≡ complete content ++ chunk ∷ []
one_completed content more old chunk was least is =
    let all : List ℕ = content ++ more in
    let size : old.start + old.len ≡ length content = was.under_way.size in
    let count : length all ≡ length content + length more = length-append content more in
    let e1 : old.len + length more ≡ length all - old.start = omega arith in
    let e2 : drop old.start content ++ more ≡ drop old.start all = sym (bytes_more content more old.start old.len size) in
    let n : length (drop old.start all) ≡ length all - old.start = length-drop old.start all in
    let e3 : drop old.start all ≡ take (length all - old.start) (drop old.start all) = sym (take_all (length all - old.start) (drop old.start all) (omega arith)) in
    let chunk_is : chunk ≡ chunk_at all old.start (length all) = is ∙ same old.start _ _ _ _ e1 (e2 ∙ e3) in
    complete_one_more content more (subst (λ (s : ℕ). IsLeastEnd all s (length all)) was.start least)
    ∙ ap (λ (c : Chunk). complete content ++ c ∷ []) (ap (λ (s : ℕ). chunk_at all s (length all)) (sym was.start) ∙ sym chunk_is)
  where
    same : (s m n : ℕ) (xs ys : List ℕ) → m ≡ n → xs ≡ ys → (let a : Chunk = record { start = s; len = m; digest = sha1 xs } in let b : Chunk = record { start = s; len = n; digest = sha1 ys } in a ≡ b)
    same s m n xs ys p q = cc

pub closed : (content more : List ℕ) (old hashed new : Cutter) (window : List ℕ) → IsFed old content → length window ≡ 48
    → IsLeastEnd (content ++ more) old.start (length (content ++ more))
    → hashed ≡ record { window = window; hasher = hashed.hasher; start = old.start; len = old.len + length more }
    → new ≡ record { window = hashed.window; hasher = new.hasher; start = fed hashed; len = 0 }
    → Holds new.hasher []
    → IsFed new (content ++ more)
closed content more old hashed new window was full least h is empty =
    let e1 : hashed.start ≡ old.start = ap (λ (c : Cutter). c.start) h in
    let e2 : hashed.len ≡ old.len + length more = ap (λ (c : Cutter). c.len) h in
    let e3 : hashed.window ≡ window = ap (λ (c : Cutter). c.window) h in
    closed_at content more old new window was full least (is ∙ same new.hasher _ _ _ _ e3 (sums _ _ _ _ e1 e2)) empty
  where
    sums : (a b m n : ℕ) → a ≡ b → m ≡ n → a + m ≡ b + n
    sums a b m n p q = cc

    same : (h : Sha1) (m n : ℕ) (v w : List ℕ) → v ≡ w → m ≡ n
        → (let a : Cutter = record { window = v; hasher = h; start = m; len = 0 } in let b : Cutter = record { window = w; hasher = h; start = n; len = 0 } in a ≡ b)
    same h m n v w p q = cc

pub chunk_done : (content more : List ℕ) (old hashed : Cutter) (chunk : Chunk) (window : List ℕ) → IsFed old content
    → IsLeastEnd (content ++ more) old.start (length (content ++ more))
    → hashed ≡ record { window = window; hasher = hashed.hasher; start = old.start; len = old.len + length more }
    → Holds hashed.hasher (drop old.start content ++ more)
    → ((bytes : List ℕ) → Holds hashed.hasher bytes → chunk ≡ record { start = hashed.start; len = hashed.len; digest = sha1 bytes })
    → complete (content ++ more) ≡ complete content ++ chunk ∷ []
chunk_done content more old hashed chunk window was least h holds gives =
    let bytes : List ℕ = drop old.start content ++ more in
    let e1 : hashed.start ≡ old.start = ap (λ (c : Cutter). c.start) h in
    let e2 : hashed.len ≡ old.len + length more = ap (λ (c : Cutter). c.len) h in
    one_completed content more old chunk was least (gives bytes holds ∙ same (sha1 bytes) _ _ _ _ e1 e2)
  where
    same : (d : List ℕ) (s t m n : ℕ) → s ≡ t → m ≡ n
        → (let a : Chunk = record { start = s; len = m; digest = d } in let b : Chunk = record { start = t; len = n; digest = d } in a ≡ b)
    same d s t m n p q = cc

-- ---- over a piece

-- the next bytes of the piece
pub next_part : (content piece : List ℕ) (taken more : ℕ) → (content ++ take taken piece) ++ take more (take (length piece - taken) (drop taken piece)) ≡ content ++ take (taken + more) piece
next_part content piece taken more =
    append_assoc content (take taken piece) (take more (take (length piece - taken) (drop taken piece)))
    ∙ ap (λ (xs : List ℕ). content ++ (take taken piece ++ take more xs)) (take_rest piece taken)
    ∙ ap (λ (xs : List ℕ). content ++ xs) (sym (take-add taken more piece))

pub fed_part : (content piece : List ℕ) (taken more : ℕ) (first before after : Cutter)
    → ((content : List ℕ) → IsFed first content → IsFed before (content ++ take taken piece))
    → ((content : List ℕ) → IsFed before content → IsFed after (content ++ take more (take (length piece - taken) (drop taken piece))))
    → IsFed first content → IsFed after (content ++ take (taken + more) piece)
fed_part content piece taken more first before after p q was =
    subst (λ (xs : List ℕ). IsFed after xs) (next_part content piece taken more) (q (content ++ take taken piece) (p content was))

pub completed_part : (content piece : List ℕ) (taken more : ℕ) (first before : Cutter) (chunks new : List Chunk)
    → ((content : List ℕ) → IsFed first content → IsFed before (content ++ take taken piece))
    → ((content : List ℕ) → IsFed first content → complete (content ++ take taken piece) ≡ complete content ++ chunks)
    → ((content : List ℕ) → IsFed before content → complete (content ++ take more (take (length piece - taken) (drop taken piece))) ≡ complete content ++ new)
    → IsFed first content → complete (content ++ take (taken + more) piece) ≡ complete content ++ (chunks ++ new)
completed_part content piece taken more first before chunks new p r q was =
    ap (λ (xs : List ℕ). complete xs) (sym (next_part content piece taken more))
    ∙ q (content ++ take taken piece) (p content was)
    ∙ ap (λ (cs : List Chunk). cs ++ new) (r content was)
    ∙ append_assoc (complete content) chunks new
