-- The wires carry what is on its way, through what is lost and what is sent.
use Rattle.std.proofs.Common.{inl, inr, ◌≡◌, ℕ, zero, suc, List, [], ◌∷◌, ◌++◌, length, Option, Some, None, Bool, true, false, refl, sym, ap, ◌∙◌, subst, arith, append_assoc, map}
use Rattle.server_core.specs.declared.event.Sent.{Sent}
use Rattle.kept_promise.proofs.Common.{slice_get, marked, stream, message_spell, Message, Session, Loss, Loss.Nothing, Loss.Down_of, Loss.Up_of, numbered, with_numbered, Wire, new_wire, bytes_of, unless, up_put_in, up_put, down_put_in, down_put, down_lost, up_lost, lost_by, Ask, Told, Up, Up.Asks, Up.Replies, Down, up_message, down_message, Mix, no_mix, Carries, ask_message, reply_message, is_raw, nothing_read, ◌==◌}
use Rattle.kept_promise.proofs.Lists.{some_is, nothing_there, same_or_not, of_appended, count_more, false_and_true}
use Rattle.kept_promise.proofs.Turns.{Around, around_with, also_numbered, numbered_within, with_same}
use Rattle.callback_core.specs.declared.back_calls.Asked.{Asked}
use Rattle.server_core.specs.Recalling.{recall_sent}
use Rattle.kept_promise.proofs.Leading.{sent_message, recall_down, told_down, sent_ups, sent_downs, mix_ups_in, mix_ups, mix_downs_in, mix_downs, mix_downs_lost, mix_ups_lost, mixes_lost, CarryAll, RoutesCarry, IsCarried, AreDeaf, OwnersStay, IsStray}
use Rattle.trace_ends.specs.Core.{Loss.Made}
use Rattle.std.specs.List.{AllByRecursion}

-- ---- messages in a row

map_both : {A B : Type 0} (f : A → B) (xs ys : List A) → map f (xs ++ ys) ≡ map f xs ++ map f ys
map_both f [] ys = refl
map_both f (x ∷ xs) ys = ap (λ zs. f x ∷ zs) (map_both f xs ys)

stream_both : (xs ys : List (List ℕ)) → stream (xs ++ ys) ≡ stream xs ++ stream ys
stream_both [] ys = refl
stream_both (x ∷ xs) ys = ap (λ (zs : List ℕ). marked x ++ zs) (stream_both xs ys) ∙ sym (append_assoc (marked x) (stream xs) (stream ys))

pub bytes_both : (xs ys : List Message) → bytes_of (xs ++ ys) ≡ bytes_of xs ++ bytes_of ys
bytes_both xs ys = ap stream (map_both message_spell xs ys) ∙ stream_both (map message_spell xs) (map message_spell ys)

-- ---- one wire

more_up : (q : Wire) (m : Mix) (us : List Up) → Carries q m → Carries (record q { up = q.up ++ bytes_of (map up_message us) }) (record m { ups = m.ups ++ us })
more_up q m us c = record {
  up_sound = c.up_sound;
  up = sym (append_assoc q.server_end.rest q.up (bytes_of (map up_message us))) ∙ ap (λ (z : List ℕ). z ++ bytes_of (map up_message us)) c.up ∙ sym (bytes_both (map up_message m.ups) (map up_message us)) ∙ ap bytes_of (sym (map_both up_message m.ups us));
  down_sound = c.down_sound;
  down = c.down;
}

sent_up : (lost : Bool) (q : Wire) (m : Mix) (us : List Up) → Carries q m → Carries (record q { up = unless lost q.up (bytes_of (map up_message us)) }) (record m { ups = unless lost m.ups us })
sent_up true q m us c = c
sent_up false q m us c = more_up q m us c

more_down : (q : Wire) (m : Mix) (ds : List Down) → Carries q m → Carries (record q { down = q.down ++ bytes_of (map down_message ds) }) (record m { downs = m.downs ++ ds })
more_down q m ds c = record {
  up_sound = c.up_sound;
  up = c.up;
  down_sound = c.down_sound;
  down = sym (append_assoc q.client_end.rest q.down (bytes_of (map down_message ds))) ∙ ap (λ (z : List ℕ). z ++ bytes_of (map down_message ds)) c.down ∙ sym (bytes_both (map down_message m.downs) (map down_message ds)) ∙ ap bytes_of (sym (map_both down_message m.downs ds));
}

sent_down : (lost : Bool) (q : Wire) (m : Mix) (d : Down) → Carries q m → Carries (record q { down = unless lost q.down (bytes_of (down_message d ∷ [])) }) (record m { downs = unless lost m.downs (d ∷ []) })
sent_down true q m d c = c
sent_down false q m d c = more_down q m (d ∷ []) c

-- ---- what is sent, as messages

ups_spelled : (xs : List ℕ) (cs : List Ask) → map up_message (map Replies xs ++ map Asks cs) ≡ map reply_message xs ++ map ask_message cs
ups_spelled [] cs = by cs
  where
    by : (cs : List Ask) → map up_message (map Asks cs) ≡ map ask_message cs
    by [] = refl
    by (a ∷ cs) = ap (λ (l : List Message). ask_message a ∷ l) (by cs)
ups_spelled (x ∷ xs) cs = ap (λ (l : List Message). reply_message x ∷ l) (ups_spelled xs cs)

abbrev down_sent : ℕ × Down → Sent
down_sent p = record { session = p.0; message = down_message p.1 }

downs_spelled : (cs : List Asked) (ts : List (ℕ × Told)) → map down_sent (map recall_down cs ++ map told_down ts) ≡ map recall_sent cs ++ map sent_message ts
downs_spelled [] ts = by ts
  where
    by : (ts : List (ℕ × Told)) → map down_sent (map told_down ts) ≡ map sent_message ts
    by [] = refl
    by (t ∷ ts) = ap (λ (l : List Sent). sent_message t ∷ l) (by ts)
downs_spelled (a ∷ cs) ts = ap (λ (l : List Sent). recall_sent a ∷ l) (downs_spelled cs ts)

-- ---- all wires

pub carry_with : (sessions : List Session) (ws : List Wire) (qs : List Mix) (n : ℕ) (q r : Wire) (m l : Mix) → CarryAll sessions ws qs → numbered ws n ≡ Some q → numbered qs n ≡ Some m → ((x : Session) → numbered sessions n ≡ Some x → IsCarried (is_raw x) r l) → CarryAll sessions (with_numbered ws n r) (with_numbered qs n l)
carry_with sessions ws qs n q r m l c at is own =
    let a : Around ws (with_numbered ws n r) n r = around_with ws n q r at in
    let b : Around qs (with_numbered qs n l) n l = around_with qs n m l is in (
      a.count ∙ c.0 ∙ sym b.count,
      λ k x p z f g h. elim (same_or_not k n) [
        | inl e ↦
            let first : p ≡ r = some_is p r (sym g ∙ ap (numbered (with_numbered ws n r)) e ∙ a.there) in
            let second : z ≡ l = some_is z l (sym h ∙ ap (numbered (with_numbered qs n l)) e ∙ b.there) in
            subst (λ (v : Wire). IsCarried (is_raw x) v z) (sym first) (subst (λ (v : Mix). IsCarried (is_raw x) r v) (sym second) (own x (ap (numbered sessions) (sym e) ∙ f)))
        | inr apart ↦ c.1 k x p z f (sym (a.others k apart) ∙ g) (sym (b.others k apart) ∙ h)
      ],
    )

-- both have something at a number, or neither
data Both (ws : List Wire) (qs : List Mix) (n : ℕ) : Type 0 where
  neither : numbered ws n ≡ None → numbered qs n ≡ None → Both ws qs n
  each : (q : Wire) (m : Mix) → numbered ws n ≡ Some q → numbered qs n ≡ Some m → Both ws qs n

both : (ws : List Wire) (qs : List Mix) (n : ℕ) → length ws ≡ length qs → Both ws qs n
both ws qs n e = by (numbered ws n) refl
  where
    by_none : numbered ws n ≡ None → (o : Option Mix) → numbered qs n ≡ o → Both ws qs n
    by_none f None g = neither f g
    by_none f (Some m) g = let w = also_numbered qs ws n m e g in nothing_there w.0 (sym f ∙ w.1)

    by : (o : Option Wire) → numbered ws n ≡ o → Both ws qs n
    by None f = by_none f (numbered qs n) refl
    by (Some q) f = let w = also_numbered ws qs n q (sym e) f in each q w.0 f w.1

put_up_on : (b lost : Bool) (q : Wire) (m : Mix) (us : List Up) → b ≡ false → IsCarried b q m → IsCarried b (record q { up = unless lost q.up (bytes_of (map up_message us)) }) (record m { ups = unless lost m.ups us })
put_up_on true lost q m us owned c = absurd (false_and_true true owned refl)
put_up_on false lost q m us owned c = sent_up lost q m us c

put_down_on : (b cut : Bool) (q : Wire) (m : Mix) (d : Down) → (b ≡ true → cut ≡ true) → IsCarried b q m → IsCarried b (record q { down = unless cut q.down (bytes_of (down_message d ∷ [])) }) (record m { downs = unless cut m.downs (d ∷ []) })
put_down_on false cut q m d deaf c = sent_down cut q m d c
put_down_on true true q m d deaf c = c
put_down_on true false q m d deaf c = absurd (false_and_true false refl (deaf refl))

ups_carry_in : (sessions : List Session) (ws : List Wire) (qs : List Mix) (n : ℕ) (us : List Up) (x : Option Session) → ((z : Session) → numbered sessions n ≡ Some z → is_raw z ≡ false) → CarryAll sessions ws qs → CarryAll sessions (up_put_in ws n (map up_message us) x (numbered ws n)) (mix_ups_in qs n us x (numbered qs n))
ups_carry_in sessions ws qs n us None owned c = c
ups_carry_in sessions ws qs n us (Some x) owned c = by (both ws qs n c.0)
  where
    by : Both ws qs n → CarryAll sessions (up_put_in ws n (map up_message us) (Some x) (numbered ws n)) (mix_ups_in qs n us (Some x) (numbered qs n))
    by (neither f g) = subst (λ (o : Option Wire). CarryAll sessions (up_put_in ws n (map up_message us) (Some x) o) (mix_ups_in qs n us (Some x) (numbered qs n))) (sym f) (subst (λ (o : Option Mix). CarryAll sessions ws (mix_ups_in qs n us (Some x) o)) (sym g) c)
    by (each q m f g) =
        subst (λ (o : Option Wire). CarryAll sessions (up_put_in ws n (map up_message us) (Some x) o) (mix_ups_in qs n us (Some x) (numbered qs n))) (sym f)
        (subst (λ (o : Option Mix). CarryAll sessions (up_put_in ws n (map up_message us) (Some x) (Some q)) (mix_ups_in qs n us (Some x) o)) (sym g)
        (carry_with sessions ws qs n q _ m _ c f g (λ z at. put_up_on (is_raw z) x.hung q m us (owned z at) (c.1 n z q m at f g))))

ups_carry : (sessions : List Session) (ws : List Wire) (qs : List Mix) (o : Option ℕ) (us : List Up) → ((n : ℕ) (x : Session) → o ≡ Some n → numbered sessions n ≡ Some x → is_raw x ≡ false) → CarryAll sessions ws qs → CarryAll sessions (up_put sessions ws o (map up_message us)) (mix_ups sessions qs o us)
ups_carry sessions ws qs None us owned c = c
ups_carry sessions ws qs (Some n) us owned c = ups_carry_in sessions ws qs n us (numbered sessions n) (λ z at. owned n z refl at) c

downs_carry_in : (sessions : List Session) (ws : List Wire) (qs : List Mix) (p : ℕ × Down) (x : Option Session) → numbered sessions p.0 ≡ x → AreDeaf sessions → CarryAll sessions ws qs → CarryAll sessions (down_put_in ws (down_sent p) x (numbered ws p.0)) (mix_downs_in qs p x (numbered qs p.0))
downs_carry_in sessions ws qs p None here deaf c = c
downs_carry_in sessions ws qs p (Some x) here deaf c = by (both ws qs p.0 c.0)
  where
    by : Both ws qs p.0 → CarryAll sessions (down_put_in ws (down_sent p) (Some x) (numbered ws p.0)) (mix_downs_in qs p (Some x) (numbered qs p.0))
    by (neither f g) = subst (λ (o : Option Wire). CarryAll sessions (down_put_in ws (down_sent p) (Some x) o) (mix_downs_in qs p (Some x) (numbered qs p.0))) (sym f) (subst (λ (o : Option Mix). CarryAll sessions ws (mix_downs_in qs p (Some x) o)) (sym g) c)
    by (each q m f g) =
        subst (λ (o : Option Wire). CarryAll sessions (down_put_in ws (down_sent p) (Some x) o) (mix_downs_in qs p (Some x) (numbered qs p.0))) (sym f)
        (subst (λ (o : Option Mix). CarryAll sessions (down_put_in ws (down_sent p) (Some x) (Some q)) (mix_downs_in qs p (Some x) o)) (sym g)
        (carry_with sessions ws qs p.0 q _ m _ c f g (λ z at. put_down_on (is_raw z) x.cut q m p.1 (λ raw. ap (λ (v : Session). v.cut) (some_is x z (sym here ∙ at)) ∙ deaf p.0 z at raw) (c.1 p.0 z q m at f g))))

downs_carry : (sessions : List Session) (ws : List Wire) (qs : List Mix) (ps : List (ℕ × Down)) → AreDeaf sessions → CarryAll sessions ws qs → CarryAll sessions (down_put sessions ws (map down_sent ps)) (mix_downs sessions qs ps)
downs_carry sessions ws qs [] deaf c = c
downs_carry sessions ws qs (p ∷ ps) deaf c =
    downs_carry sessions (down_put_in ws (down_sent p) (numbered sessions p.0) (numbered ws p.0)) (mix_downs_in qs p (numbered sessions p.0) (numbered qs p.0)) ps deaf (downs_carry_in sessions ws qs p (numbered sessions p.0) refl deaf c)

-- what nobody hears changes nothing
strays_vanish : (sessions : List Session) (ws : List Wire) (ss rest : List Sent) → AllByRecursion (IsStray sessions) ss → down_put sessions ws (ss ++ rest) ≡ down_put sessions ws rest
strays_vanish sessions ws [] rest all = refl
strays_vanish sessions ws (s ∷ ss) rest all = ap (λ (zs : List Wire). down_put sessions zs (ss ++ rest)) (gone (numbered ws s.session) refl) ∙ strays_vanish sessions ws ss rest all.1
  where
    gone : (o : Option Wire) → numbered ws s.session ≡ o → down_put_in ws s (numbered sessions s.session) o ≡ ws
    gone None at = ap (λ (x : Option Session). down_put_in ws s x None) all.0.1
    gone (Some q) at =
        ap (λ (x : Option Session). down_put_in ws s x (Some q)) all.0.1
        ∙ ap (λ (b : Bool). with_numbered ws s.session (record q { down = unless b q.down (bytes_of (s.message ∷ [])) })) all.0.2
        ∙ with_same ws s.session q at

-- ---- what is lost

past_end : {A : Type 0} (xs : List A) (k : ℕ) (x : A) → k ≡ length xs → slice_get xs k ≡ Some x → ⊥
past_end [] k x e f = nothing_there x f
past_end (y ∷ xs) zero x e f = absurd (omega (arith, e))
past_end (y ∷ xs) (suc k) x e f = past_end xs k x (omega (arith, e)) f

-- of a session that was there before
was_carried : (sessions after : List Session) (ws : List Wire) (qs : List Mix) → OwnersStay sessions after → length sessions ≡ length qs → CarryAll sessions ws qs → (n : ℕ) (y : Session) (q : Wire) (m : Mix) → numbered after n ≡ Some y → numbered ws n ≡ Some q → numbered qs n ≡ Some m → IsCarried (is_raw y) q m
was_carried sessions after ws qs stay count c n y q m at f g = elim (stay n y at) [
  | inl was ↦ subst (λ (i : ℕ). IsCarried (i == 0) q m) (sym was.2) (c.1 n was.0 q m was.1 f g)
  | inr late ↦ let w = numbered_within qs n m g in absurd (omega (arith, w, late, count))
]

new_carried : (b : Bool) → IsCarried b new_wire no_mix
new_carried true = (refl, tt, tt)
new_carried false = record { up_sound = refl; up = refl; down_sound = refl; down = refl }

carry_new : (sessions after : List Session) (ws : List Wire) (qs : List Mix) → OwnersStay sessions after → length sessions ≡ length qs → CarryAll sessions ws qs → CarryAll after (ws ++ new_wire ∷ []) (qs ++ no_mix ∷ [])
carry_new sessions after ws qs stay count c = (count_more ws new_wire ∙ ap suc c.0 ∙ sym (count_more qs no_mix), at)
  where
    at : (n : ℕ) (y : Session) (q : Wire) (m : Mix) → numbered after n ≡ Some y → numbered (ws ++ new_wire ∷ []) n ≡ Some q → numbered (qs ++ no_mix ∷ []) n ≡ Some m → IsCarried (is_raw y) q m
    at zero y q m e f g = nothing_there q f
    at (suc k) y q m e f g = elim (of_appended ws new_wire k q f) [
      | inl a ↦ elim (of_appended qs no_mix k m g) [
        | inl b ↦ subst (λ (v : Wire). IsCarried (is_raw y) v m) (sym a.1) (subst (λ (v : Mix). IsCarried (is_raw y) new_wire v) (sym b.1) (new_carried (is_raw y)))
        | inr b ↦ let w = also_numbered qs ws (suc k) m c.0 b in absurd (past_end ws k w.0 a.0 w.1)
      ]
      | inr a ↦ elim (of_appended qs no_mix k m g) [
        | inl b ↦ let w = also_numbered ws qs (suc k) q (sym c.0) a in absurd (past_end qs k w.0 b.0 w.1)
        | inr b ↦ was_carried sessions after ws qs stay count c (suc k) y q m e a b
      ]
    ]

no_downs : (b : Bool) (q : Wire) (m : Mix) → IsCarried b q m → IsCarried b (record q { down = []; client_end = nothing_read }) (record m { downs = [] })
no_downs true q m c = (refl, c.1, c.2)
no_downs false q m c = record { up_sound = c.up_sound; up = c.up; down_sound = refl; down = refl }

no_ups : (b : Bool) (q : Wire) (m : Mix) → IsCarried b q m → IsCarried b (record q { up = []; server_end = nothing_read }) (record m { ups = [] })
no_ups true q m c = (c.0, tt, tt)
no_ups false q m c = record { up_sound = refl; up = refl; down_sound = c.down_sound; down = c.down }

lost_carry : (sessions after : List Session) (ws : List Wire) (qs : List Mix) (loss : Loss) → OwnersStay sessions after → length sessions ≡ length qs → CarryAll sessions ws qs → CarryAll after (lost_by ws loss) (mixes_lost qs loss)
lost_carry sessions after ws qs Nothing stay count c = (c.0, was_carried sessions after ws qs stay count c)
lost_carry sessions after ws qs Made stay count c = carry_new sessions after ws qs stay count c
lost_carry sessions after ws qs (Down_of n) stay count c = by (both ws qs n c.0)
  where
    d : CarryAll after ws qs
    d = (c.0, was_carried sessions after ws qs stay count c)

    by : Both ws qs n → CarryAll after (down_lost ws n (numbered ws n)) (mix_downs_lost qs n (numbered qs n))
    by (neither f g) = subst (λ (o : Option Wire). CarryAll after (down_lost ws n o) (mix_downs_lost qs n (numbered qs n))) (sym f) (subst (λ (o : Option Mix). CarryAll after ws (mix_downs_lost qs n o)) (sym g) d)
    by (each q m f g) =
        subst (λ (o : Option Wire). CarryAll after (down_lost ws n o) (mix_downs_lost qs n (numbered qs n))) (sym f)
        (subst (λ (o : Option Mix). CarryAll after (down_lost ws n (Some q)) (mix_downs_lost qs n o)) (sym g)
        (carry_with after ws qs n q _ m _ d f g (λ x at. no_downs (is_raw x) q m (d.1 n x q m at f g))))
lost_carry sessions after ws qs (Up_of n) stay count c = by (both ws qs n c.0)
  where
    d : CarryAll after ws qs
    d = (c.0, was_carried sessions after ws qs stay count c)

    by : Both ws qs n → CarryAll after (up_lost ws n (numbered ws n)) (mix_ups_lost qs n (numbered qs n))
    by (neither f g) = subst (λ (o : Option Wire). CarryAll after (up_lost ws n o) (mix_ups_lost qs n (numbered qs n))) (sym f) (subst (λ (o : Option Mix). CarryAll after ws (mix_ups_lost qs n o)) (sym g) d)
    by (each q m f g) =
        subst (λ (o : Option Wire). CarryAll after (up_lost ws n o) (mix_ups_lost qs n (numbered qs n))) (sym f)
        (subst (λ (o : Option Mix). CarryAll after (up_lost ws n (Some q)) (mix_ups_lost qs n o)) (sym g)
        (carry_with after ws qs n q _ m _ d f g (λ x at. no_ups (is_raw x) q m (d.1 n x q m at f g))))

pub routes_carry : RoutesCarry
routes_carry = λ sessions wires ms t s stay deaf owned count c.
    let lost : CarryAll t.core.sessions (lost_by wires t.loss) (mixes_lost ms t.loss) = lost_carry sessions t.core.sessions wires ms t.loss stay count c in
    let us : List Up = sent_ups t s in
    let ds : List (ℕ × Down) = sent_downs t s in
    let up : CarryAll t.core.sessions (up_put t.core.sessions (lost_by wires t.loss) t.session t.up) (mix_ups t.core.sessions (mixes_lost ms t.loss) t.session us) = subst (λ (zs : List Message). CarryAll t.core.sessions (up_put t.core.sessions (lost_by wires t.loss) t.session zs) (mix_ups t.core.sessions (mixes_lost ms t.loss) t.session us)) (ups_spelled s.replies s.asks ∙ sym s.up_is) (ups_carry t.core.sessions (lost_by wires t.loss) (mixes_lost ms t.loss) t.session us owned lost) in
    let ws : List Wire = up_put t.core.sessions (lost_by wires t.loss) t.session t.up in
    let ks : List Mix = mix_ups t.core.sessions (mixes_lost ms t.loss) t.session us in
    subst (λ (zs : List Wire). CarryAll t.core.sessions zs (mix_downs t.core.sessions ks ds)) (sym (ap (down_put t.core.sessions ws) s.down_is ∙ strays_vanish t.core.sessions ws s.strays (map recall_sent s.recalls ++ map sent_message s.tolds) s.strays_cut))
    (subst (λ (ss : List Sent). CarryAll t.core.sessions (down_put t.core.sessions ws ss) (mix_downs t.core.sessions ks ds)) (downs_spelled s.recalls s.tolds) (downs_carry t.core.sessions ws ks ds deaf up))
