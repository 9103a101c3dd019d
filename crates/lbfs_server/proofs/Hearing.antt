-- Records that were answered in turns, one after the other.
use Rattle.std.specs.Prelude.{◌≡◌, ◌⊎◌, ℕ, List, [], ◌∷◌, ◌++◌, Option, None}
use Rattle.std.proofs.Common.{refl, inl, inr}
use Rattle.std.specs.Io.KnownBytes.{Consumes, IsAtEnd}
use mathlib.Core.List.{IsPrefix}
use Rattle.record_ends.specs.Ends.{Kept, nothing_kept, Gives, Takes}
use Rattle.record_ends.specs.declared.end.End.{End}
use Rattle.record_ends.specs.declared.end.End.TheVariants as ends
use Rattle.record_ends.proofs.lemmas.Coming.{consumes_more}
use Rattle.turn_post.proofs.lemmas.Fronts.{prefix_self, prefix_trans}
use Rattle.turn_post.specs.declared.journaled.Journaled.{Ghosts}
use Rattle.turn_post.specs.declared.post.Pass.{Pass}
use Rattle.turn_post.specs.Passes.{seen}
use Rattle.server_held.specs.declared.held.Went.{Went}
use Rattle.server_turns.specs.Turned.{IsAnswered, IsHeard}
use Rattle.wire.specs.declared.message.Message.{Message}
use Rattle.lbfs_server.specs.Heard.{AnswersRecord, HearsAll, HearsToEnd}
use Rattle.lbfs_server.proofs.Ordering.{turned_between, in_order_one}
use Rattle.lbfs_server.proofs.Giving.{consumes_none, gave_more, gave_no_more}

module _ {V E : Type 0} {g : Ghosts V E} (journal : V → List E) (hears : V → ℕ → List ℕ → ℕ → Went → V → Type 0) (session : ℕ) where
  heard_wider : (now : ℕ) (bytes : List ℕ) (p m q : Pass V E g) → IsPrefix (seen p) (seen m) → IsHeard journal hears session now bytes m q → IsHeard journal hears session now bytes p q
  heard_wider now bytes p m q first heard = (heard.0, turned_between journal (λ found left. hears found session bytes now heard.0 left) p m q q first heard.1 (prefix_self (seen q)))

module _ {V E : Type 0} {g : Ghosts V E} (journal : V → List E) (hears : V → ℕ → List ℕ → ℕ → Went → V → Type 0) (gives : V → ℕ → List Message → V → Type 0) (session : ℕ) where
  -- what was answered between two passes was between any two that lie further apart
  pub answered_between : (now : ℕ) (bytes : List ℕ) (messages : List Message) (p m n q : Pass V E g) → IsPrefix (seen p) (seen m) → IsAnswered journal hears gives session now bytes messages m n → IsPrefix (seen n) (seen q)
      → AnswersRecord journal hears gives session bytes p q
  answered_between now bytes messages p m n q first answered last = (
    now,
    messages,
    record {
      between = answered.between;
      heard = heard_wider journal hears session now bytes p m answered.between first answered.heard;
      took = turned_between journal (λ found left. gives found session messages left) answered.between answered.between n q (prefix_self (seen answered.between)) answered.took last;
      first = prefix_trans (seen p) (seen m) (seen answered.between) first answered.first;
      later = prefix_trans (seen answered.between) (seen n) (seen q) answered.later last;
    },
  )

  answers_wider : (bytes : List ℕ) (p m q : Pass V E g) → IsPrefix (seen p) (seen m) → AnswersRecord journal hears gives session bytes m q → AnswersRecord journal hears gives session bytes p q
  answers_wider bytes p m q first one = answered_between one.0 bytes one.1 p m q q first one.2 (prefix_self (seen q))

  pub hears_none : (left : Option (List ℕ)) (p : Pass V E g) → HearsAll journal hears gives session left left nothing_kept p p
  hears_none left p = record { bytes = []; records = []; consumed = consumes_none left; gave = λ more. refl; answered = prefix_self (seen p) }

  pub hears_more : (before between after : Option (List ℕ)) (kept new : Kept) (bytes r : List ℕ) (p m q : Pass V E g) → HearsAll journal hears gives session before between kept p m → Consumes between after bytes → Gives kept bytes r new
      → AnswersRecord journal hears gives session r m q → HearsAll journal hears gives session before after new p q
  hears_more before between after kept new bytes r p m q all consumed given answered = record {
    bytes = all.bytes ++ bytes;
    records = all.records ++ r ∷ [];
    consumed = consumes_more before between after all.bytes bytes all.consumed consumed;
    gave = gave_more nothing_kept kept new all.bytes bytes all.records r all.gave given;
    answered = in_order_one (AnswersRecord journal hears gives session) answers_wider all.records r p m q all.answered answered;
  }

  pub hears_to_end : (before between after : Option (List ℕ)) (kept new : Kept) (bytes : List ℕ) (p q : Pass V E g) → HearsAll journal hears gives session before between kept p q → Consumes between after bytes → Takes kept bytes new
      → new.waiting ≡ [] → HearsToEnd journal hears gives session before after p q
  hears_to_end before between after kept new bytes p q all consumed takes none = (
    new,
    none,
    record {
      bytes = all.bytes ++ bytes;
      records = all.records;
      consumed = consumes_more before between after all.bytes bytes all.consumed consumed;
      gave = gave_no_more nothing_kept kept new all.bytes bytes all.records all.gave takes;
      answered = all.answered;
    },
  )

  -- a loop over the records of a link ends with them, or with bytes behind which none can stand
  pub hears_at_end : (before between after : Option (List ℕ)) (kept new : Kept) (end : End) (p q : Pass V E g) → HearsAll journal hears gives session before between kept p q
      → (end ≡ ends.InputEnd → (bytes : List ℕ) × Consumes between after bytes × Takes kept bytes new × IsAtEnd after × (new.waiting ≡ []) × (new.unread.spoilt ≡ None))
      → (end ≡ ends.Spoilt → (bytes : List ℕ) × Consumes between after bytes × Takes kept bytes new × (new.waiting ≡ []) × ¬ (new.unread.spoilt ≡ None))
      → (end ≡ ends.InputEnd) ⊎ (end ≡ ends.Spoilt) → HearsToEnd journal hears gives session before after p q
  hears_at_end before between after kept new end p q all ended spoilt (inl is) = let e = ended is in hears_to_end before between after kept new e.0 p q all e.1 e.2 e.4
  hears_at_end before between after kept new end p q all ended spoilt (inr is) = let e = spoilt is in hears_to_end before between after kept new e.0 p q all e.1 e.2 e.3

no_input_end : ◌≡◌ {A = End} ends.Memory ends.InputEnd → ⊥
no_input_end e = cc

not_spoilt : ◌≡◌ {A = End} ends.Memory ends.Spoilt → ⊥
not_spoilt e = cc

-- want of memory is neither
pub starved : {A : Type 0} → (◌≡◌ {A = End} ends.Memory ends.InputEnd) ⊎ (◌≡◌ {A = End} ends.Memory ends.Spoilt) → A
starved (inl e) = absurd (no_input_end e)
starved (inr e) = absurd (not_spoilt e)
