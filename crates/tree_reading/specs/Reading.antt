-- What is read of a tree.
use Rattle.std.specs.Prelude.{◌≡◌, IsOk, ℕ, ◌+◌, ◌-◌, ◌*◌, ◌/◌, ◌%◌, List, [], ◌∷◌, length, take, drop, min, Option, Some, None, Result, Ok, Err, Bool, ◌&&◌, ◌||◌, ◌==◌, not, if◌then◌else◌, nat_lt, nat_le}
use Rattle.std.specs.Option.{option_map}
use Rattle.chunk_cut.specs.Chunks.{chunks_of}
use Rattle.chunk_cut.specs.declared.chunk.Chunk.{Chunk}
use Rattle.limits.specs.declared.TheConstants.{LISTING_MOST, PIECE_MOST}
use Rattle.tree_reading.specs.Chain.{◌>>=◌}
use Rattle.xdr_codec.specs.declared.status.Status.{Status}
use Rattle.xdr_codec.specs.declared.status.Status.TheVariants as status
use Rattle.xdr_codec.specs.declared.attr.Attr.{Attr}
use Rattle.xdr_codec.specs.declared.attr.Time.{Time}
use Rattle.xdr_codec.specs.declared.attr.Kind.TheVariants as kind
use Rattle.nfs3_calls.specs.declared.call.Piece.{Piece}
use Rattle.nfs3_calls.specs.declared.listing.Entry.{Entry}
use Rattle.nfs3_calls.specs.declared.listing.Listing.{Listing}
use Rattle.tree_nodes.specs.declared.node.Node.{Node}
use Rattle.tree_nodes.specs.declared.node.Body.{Body}
use Rattle.tree_nodes.specs.declared.node.Body.TheVariants.{Directory, File}
use Rattle.tree_nodes.specs.Nodes.{with_id, named, names}
use Rattle.tree_reading.specs.declared.error.TreeError.{TreeError}
use Rattle.tree_reading.specs.declared.error.TreeError.TheVariants as tree_err
use Rattle.tree_reading.specs.declared.reading.Standing.{Standing}
use Rattle.tree_reading.specs.declared.reading.Looked.{Looked}
use Rattle.tree_reading.specs.Names.{is_dot, is_dot_dot, spelt}
use Rattle.tree_reading.specs.Tree.{is_directory, node_of, directory_of, file_or, or_no_entry, content_of}

-- ---- attributes (RFC 1813, section 2.6: fattr3)

-- all three times show the version
abbrev pub time_of : ℕ → Time
time_of version = record { seconds = version / 1000000000; nanoseconds = version % 1000000000 }

-- those of a file of so many bytes
abbrev pub file_attr : ℕ → ℕ → ℕ → Attr
file_attr id version size = record { kind = kind.File; mode = 420; nlink = 1; uid = 0; gid = 0; size = size; used = size; rdev_major = 0; rdev_minor = 0; fsid = 0x4C424653; fileid = id; atime = time_of version; mtime = time_of version; ctime = time_of version }

-- those of a directory of so many entries
abbrev pub directory_attr : ℕ → ℕ → ℕ → Attr
directory_attr id version entries = record { kind = kind.Directory; mode = 493; nlink = 2; uid = 0; gid = 0; size = entries; used = entries; rdev_major = 0; rdev_minor = 0; fsid = 0x4C424653; fileid = id; atime = time_of version; mtime = time_of version; ctime = time_of version }

abbrev pub attr_body : List Node → Node → Body → Attr
attr_body nodes n Directory = directory_attr n.id n.version (length (names nodes n.id))
attr_body nodes n (File c) = file_attr n.id n.version (length c)

abbrev pub attr_of : List Node → Node → Attr
attr_of nodes n = attr_body nodes n n.body

abbrev pub attr : List Node → ℕ → Result Attr Status
attr nodes id = node_of nodes id >>= λ n. Ok (attr_of nodes n)

-- ---- LOOKUP (RFC 1813, section 3.3.3)

-- the directory above; the root's is the root
abbrev pub above : Node → Option Node → Node
above d None = d
above d (Some n) = n

abbrev pub looked : List Node → Node → List ℕ → Result Node Status
looked nodes d name =
    if is_dot name then Ok d else (if is_dot_dot name then Ok (above d (with_id nodes d.parent)) else or_no_entry (named nodes d.id name))

abbrev pub found_of : List Node → Node → Node → Looked
found_of nodes d n = record { id = n.id; attr = attr_of nodes n; dir = attr_of nodes d }

abbrev pub lookup : List Node → ℕ → List ℕ → Result Looked Status
lookup nodes dir name =
    directory_of nodes dir >>= λ d. spelt name >>= λ _. looked nodes d name >>= λ n. Ok (found_of nodes d n)

-- ---- what a name stands for, whatever its spelling

abbrev pub standing_of : Node → Standing
standing_of n = record { id = n.id; is_file = not (is_directory n.body) }

abbrev pub stands_for : List Node → ℕ → List ℕ → Option Standing
stands_for nodes dir name = option_map standing_of (named nodes dir name)

-- ---- READ (RFC 1813, section 3.3.6)

-- the bytes from the offset on, at most as many as are asked for, and at most 65,536
abbrev pub piece_bytes : List ℕ → ℕ → ℕ → List ℕ
piece_bytes content offset count = take (min count PIECE_MOST) (drop offset content)

abbrev pub piece_of : List Node → Node → ℕ → ℕ → Piece
piece_of nodes n offset count = record {
  attr = Some (attr_of nodes n);
  count = length (piece_bytes (content_of n.body) offset count);
  eof = nat_le (length (content_of n.body)) (offset + length (piece_bytes (content_of n.body) offset count));
  bytes = piece_bytes (content_of n.body) offset count;
}

abbrev pub read : List Node → ℕ → ℕ → ℕ → Result Piece Status
read nodes id offset count = node_of nodes id >>= file_or status.Inval >>= λ n. Ok (piece_of nodes n offset count)

-- ---- contents and versions

abbrev pub content : List Node → ℕ → Result (List ℕ) Status
content nodes id = node_of nodes id >>= file_or status.IsDir >>= λ n. Ok (content_of n.body)

abbrev pub chunks_in : Node → Result (List Chunk) Status
chunks_in n = file_or status.IsDir n >>= λ f. Ok (chunks_of (content_of f.body))

abbrev pub chunks : List Node → ℕ → Result (List Chunk) Status
chunks nodes id = node_of nodes id >>= λ n. chunks_in n

abbrev pub version : List Node → ℕ → Result ℕ Status
version nodes id = node_of nodes id >>= λ n. Ok n.version

-- ---- READDIR (RFC 1813, section 3.3.16)

-- how many bytes an entry takes in an answer, its name filled up to four
abbrev pub entry_size : List ℕ → ℕ
entry_size name = 24 + 4 * ((length name + 3) / 4)

-- the entries from a cookie on that fit
abbrev pub page : ℕ → ℕ → List Node → List Entry
page room cookie [] = []
page room cookie (n ∷ ns) =
    let later : List Entry = page (room - entry_size n.name) (cookie + 1) ns in
    if nat_le (entry_size n.name) room then record { fileid = n.id; name = n.name; cookie = cookie + 1 } ∷ later else []

-- entries are left and none fits
abbrev pub is_too_small : List Node → List Entry → Bool
is_too_small left entries = not (length left == 0) && (length entries == 0)

abbrev pub listing_of : List Node → Node → List Node → List Entry → Result Listing Status
listing_of nodes d left entries =
    if is_too_small left entries then Err status.TooSmall else Ok (record { attr = Some (attr_of nodes d); verifier = d.version; entries = entries; eof = length entries == length left })

-- an answer without its entries takes 104 bytes
abbrev pub listed : List Node → Node → ℕ → ℕ → Result Listing Status
listed nodes d cookie room =
    if nat_lt room 104 then Err status.TooSmall else listing_of nodes d (drop cookie (names nodes d.id)) (page (room - 104) cookie (drop cookie (names nodes d.id)))

-- a cookie that this directory didn't give, or gave before its names changed
abbrev pub is_bad_cookie : List Node → Node → ℕ → ℕ → Bool
is_bad_cookie nodes d cookie verifier = (not (cookie == 0) && not (verifier == d.version)) || nat_lt (length (names nodes d.id)) cookie

abbrev pub list : List Node → ℕ → ℕ → ℕ → ℕ → Result Listing Status
list nodes dir cookie verifier count =
    directory_of nodes dir >>= λ d. if is_bad_cookie nodes d cookie verifier then Err status.BadCookie else listed nodes d cookie (min count LISTING_MOST)

-- ---- what is answered, where memory may run out: never where the call is refused

abbrev pub Answers : {A : Type 0} → Result A Status → Result A TreeError → Type 0
Answers {A} r (Ok x) = ◌≡◌ {A = Result A Status} r (Ok x)
Answers {A} r (Err (tree_err.Refused s)) = ◌≡◌ {A = Result A Status} r (Err s)
Answers r (Err tree_err.Memory) = IsOk r
