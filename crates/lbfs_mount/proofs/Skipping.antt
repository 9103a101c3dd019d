-- A line says nothing where its text is skipped, and only there.
use Rattle.std.proofs.Common.{◌≡◌, List, ℕ, [], ◌∷◌, Bool, true, false, refl, sym, ap, ◌∙◌, subst}
use Rattle.std.specs.Prelude.{Option, Some, None, if◌then◌else◌, codes, bytes_eq}
use Rattle.command_text.specs.Commands.{command_of}
use Rattle.command_text.specs.Fields.{◌>>=◌}
use Rattle.command_text.specs.Parts.{words_of}
use Rattle.command_text.specs.declared.command.Command.{Command}
use Rattle.lbfs_client.specs.Lines.{local_of, place_of, put_of, get_of, join_of, plain_of, said_by, is_skipped, line_of}
use Rattle.lbfs_client.specs.declared.line.MountLine.{MountLine}
use Rattle.lbfs_client.specs.declared.line.MountLine.TheVariants as line
use Rattle.lbfs_client.specs.declared.line.Place.{Place}
use Rattle.lbfs_mount.specs.Mounts.{is_skip}

pub says_nothing : (text : List ℕ) → is_skipped text ≡ true → line_of text ≡ Some line.Skipped
says_nothing text skips = ap (λ b. if b then Some line.Skipped else said_by (words_of text)) skips

-- what is read there says something
abbrev Speaks : Option MountLine → Type 0
Speaks o = (l : MountLine) → o ≡ Some l → is_skip l ≡ false

speaks_none : Speaks None
speaks_none l is = cc

speaks_some : (x : MountLine) → is_skip x ≡ false → Speaks (Some x)
speaks_some x speaks l is = let same : x ≡ l = cc in subst (λ (y : MountLine). is_skip y ≡ false) same speaks

put_speaks : (o : Option (List ℕ)) (p : Option Place) → Speaks (o >>= λ l. p >>= λ q. Some (line.Put l q))
put_speaks None p = speaks_none
put_speaks (Some l) None = speaks_none
put_speaks (Some l) (Some q) = speaks_some (line.Put l q) refl

get_speaks : (p : Option Place) (o : Option (List ℕ)) → Speaks (p >>= λ q. o >>= λ l. Some (line.Get q l))
get_speaks None o = speaks_none
get_speaks (Some q) None = speaks_none
get_speaks (Some q) (Some l) = speaks_some (line.Get q l) refl

plain_speaks : (o : Option Command) → Speaks (plain_of o)
plain_speaks None = speaks_none
plain_speaks (Some c) = speaks_some (line.Plain c) refl

put_line : (words : List (List ℕ)) → Speaks (put_of words)
put_line [] = speaks_none
put_line (local ∷ []) = speaks_none
put_line (local ∷ place ∷ []) = put_speaks (local_of local) (place_of place)
put_line (local ∷ place ∷ more ∷ words) = speaks_none

get_line : (words : List (List ℕ)) → Speaks (get_of words)
get_line [] = speaks_none
get_line (place ∷ []) = speaks_none
get_line (place ∷ local ∷ []) = get_speaks (place_of place) (local_of local)
get_line (place ∷ local ∷ more ∷ words) = speaks_none

join_line : (words : List (List ℕ)) → Speaks (join_of words)
join_line [] = speaks_some line.Join refl
join_line (word ∷ words) = speaks_none

by_kind : (puts gets joins : Bool) (words : List (List ℕ)) (o : Option Command) → Speaks (if puts then put_of words else if gets then get_of words else if joins then join_of words else plain_of o)
by_kind true gets joins words o = put_line words
by_kind false true joins words o = get_line words
by_kind false false true words o = join_line words
by_kind false false false words o = plain_speaks o

said : (words : List (List ℕ)) → Speaks (said_by words)
said [] = speaks_none
said (kind ∷ words) = by_kind (bytes_eq kind (codes "put")) (bytes_eq kind (codes "get")) (bytes_eq kind (codes "join")) words (command_of kind words)

pub says_something : (text : List ℕ) (l : MountLine) → is_skipped text ≡ false → line_of text ≡ Some l → is_skip l ≡ false
says_something text l speaks is = said (words_of text) l (sym (ap (λ b. if b then Some line.Skipped else said_by (words_of text)) speaks) ∙ is)
