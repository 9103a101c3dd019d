-- Examples, evaluated: the bytes that Python's xdrlib makes of some items, and refusals at their places.
use Rattle.std.specs.Prelude.{◌≡◌, [], ◌∷◌, Some, None, Ok, Err, refl}
use Rattle.xdr_codec.specs.declared.fault.Fault.TheVariants.{Short, BadBool, BadFill, TooLong, Trailing, BadValue}
use Rattle.xdr_codec.specs.declared.answer.Answer.TheVariants.{Failed}
use Rattle.xdr_codec.specs.declared.status.Status.TheVariants.{HashNotFound}
use Rattle.xdr_codec.specs.declared.attr.Kind.TheVariants.{Directory}
use Rattle.xdr_codec.specs.Format.{whole, whole_at}
use Rattle.xdr_codec.specs.Compose.{◌⋆◌}
use Rattle.xdr_codec.specs.Xdr.{u32_form, bool_form, fixed_form, bytes_form, opaque_form, opaque_spell, opaque_read, count_form}
use Rattle.xdr_codec.specs.Choice.{optional}
use Rattle.xdr_codec.specs.Repeat.{counted}
use Rattle.xdr_codec.specs.Chain.{chained}
use Rattle.xdr_codec.specs.Handle.{file_of}
use Rattle.xdr_codec.specs.Attr.{kind_form}
use Rattle.xdr_codec.specs.Answers.{answer_form, outcome_form}

pub number : u32_form.spell 4023456789 ≡ 239 ∷ 209 ∷ 20 ∷ 21 ∷ []
unfolding u32_form
number = refl

pub text : opaque_spell (104 ∷ 101 ∷ 108 ∷ 108 ∷ 111 ∷ []) ≡ 0 ∷ 0 ∷ 0 ∷ 5 ∷ 104 ∷ 101 ∷ 108 ∷ 108 ∷ 111 ∷ 0 ∷ 0 ∷ 0 ∷ []
unfolding opaque_spell
text = refl

pub chain : whole (chained u32_form) (0 ∷ 0 ∷ 0 ∷ 1 ∷ 0 ∷ 0 ∷ 0 ∷ 7 ∷ 0 ∷ 0 ∷ 0 ∷ 0 ∷ []) ≡ Ok (7 ∷ [])
unfolding bool_form u32_form
chain = refl

-- a second item at place 4, behind a header of 24 bytes: true, and a number that is cut short
pub short : whole_at 24 (u32_form ⋆ optional u32_form) (0 ∷ 0 ∷ 0 ∷ 9 ∷ 0 ∷ 0 ∷ 0 ∷ 1 ∷ 0 ∷ 0 ∷ []) ≡ Err (Short 32)
unfolding bool_form u32_form
short = refl

pub bad_bool : whole bool_form (0 ∷ 0 ∷ 0 ∷ 2 ∷ []) ≡ Err (BadBool 0 2)
unfolding bool_form u32_form
bad_bool = refl

-- the place of an opaque is that of its length, whatever is wrong with it
pub bad_fill : whole (u32_form ⋆ opaque_form 8) (0 ∷ 0 ∷ 0 ∷ 9 ∷ 0 ∷ 0 ∷ 0 ∷ 1 ∷ 97 ∷ 0 ∷ 0 ∷ 1 ∷ []) ≡ Err (BadFill 4)
unfolding opaque_read count_form bytes_form u32_form
bad_fill = refl

pub no_bytes : whole (u32_form ⋆ opaque_form 8) (0 ∷ 0 ∷ 0 ∷ 9 ∷ 0 ∷ 0 ∷ 0 ∷ 1 ∷ 97 ∷ 0 ∷ 0 ∷ []) ≡ Err (Short 4)
unfolding opaque_read count_form bytes_form u32_form
no_bytes = refl

pub too_long : whole (counted 1 u32_form) (0 ∷ 0 ∷ 0 ∷ 2 ∷ 0 ∷ 0 ∷ 0 ∷ 9 ∷ []) ≡ Err (TooLong 0 2 1)
unfolding count_form u32_form
too_long = refl

pub trailing : whole u32_form (0 ∷ 0 ∷ 0 ∷ 2 ∷ 0 ∷ []) ≡ Err (Trailing 4)
unfolding u32_form
trailing = refl

pub fixed_place : whole (u32_form ⋆ fixed_form 3) (0 ∷ 0 ∷ 0 ∷ 2 ∷ 1 ∷ 2 ∷ 3 ∷ 9 ∷ []) ≡ Err (BadFill 4)
unfolding fixed_form u32_form
fixed_place = refl

pub kinds : whole kind_form (0 ∷ 0 ∷ 0 ∷ 2 ∷ []) ≡ Ok Directory
unfolding kind_form u32_form
kinds = refl

pub no_kind : whole kind_form (0 ∷ 0 ∷ 0 ∷ 5 ∷ []) ≡ Err (BadValue 0 5)
unfolding kind_form u32_form
no_kind = refl

pub failed : whole (answer_form u32_form (optional u32_form)) (0 ∷ 0 ∷ 78 ∷ 33 ∷ 0 ∷ 0 ∷ 0 ∷ 0 ∷ []) ≡ Ok (Failed HashNotFound None)
unfolding outcome_form bool_form u32_form
failed = refl

pub no_status : whole (answer_form u32_form u32_form) (0 ∷ 0 ∷ 0 ∷ 3 ∷ []) ≡ Err (BadValue 0 3)
unfolding outcome_form u32_form
no_status = refl

pub root : file_of (76 ∷ 66 ∷ 48 ∷ 49 ∷ 0 ∷ 0 ∷ 0 ∷ 0 ∷ 0 ∷ 0 ∷ 0 ∷ 0 ∷ 0 ∷ 0 ∷ 0 ∷ 1 ∷ []) ≡ Some 1
root = refl

pub other_mark : file_of (76 ∷ 66 ∷ 48 ∷ 50 ∷ 0 ∷ 0 ∷ 0 ∷ 0 ∷ 0 ∷ 0 ∷ 0 ∷ 0 ∷ 0 ∷ 0 ∷ 0 ∷ 1 ∷ []) ≡ None
other_mark = refl
