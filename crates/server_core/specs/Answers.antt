-- What a READ is answered, by the file that its handle names.
use Rattle.std.specs.Prelude.{ℕ, ◌+◌, List, length, take, drop, min, Option, Some, None, Result, Ok, Err, nat_le}
use Rattle.limits.specs.declared.TheConstants.{PIECE_MOST}
use Rattle.xdr_codec.specs.declared.status.Status.{Status}
use Rattle.xdr_codec.specs.declared.status.Status.TheVariants as status
use Rattle.xdr_codec.specs.declared.attr.Attr.{Attr}
use Rattle.xdr_codec.specs.declared.answer.Answer.{Answer}
use Rattle.xdr_codec.specs.declared.answer.Answer.TheVariants.{Done, Failed}
use Rattle.nfs3_calls.specs.declared.call.Range.{Range}
use Rattle.nfs3_calls.specs.declared.call.Piece.{Piece}
use Rattle.chunk_calls.specs.Files.{File}
use Rattle.chunk_calls.specs.Answers.{Node, directory, file, attr_of}

-- ---- READ (RFC 1813 section 3.3.6)

-- the bytes from the offset on, at most as many as are asked for, and at most 65,536
abbrev pub piece_bytes : List ℕ → Range → List ℕ
piece_bytes content r = take (min r.count PIECE_MOST) (drop r.offset content)

abbrev pub piece_of : File → Range → Piece
piece_of f r = record {
  attr = Some (attr_of f);
  count = length (piece_bytes f.content r);
  eof = nat_le (length f.content) (r.offset + length (piece_bytes f.content r));
  bytes = piece_bytes f.content r;
}

abbrev pub read_answer : Result Node Status → Range → Answer Piece (Option Attr)
read_answer (Err s) r = Failed s None
read_answer (Ok directory) r = Failed status.Inval None
read_answer (Ok (file f)) r = Done (piece_of f r)
