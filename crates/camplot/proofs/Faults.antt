-- Why bytes were not read.
use Rattle.std.proofs.Common.{◌≡◌, ◌≢◌, ◌≤◌, ◌<◌, ◌∙◌, ◌++◌, ℕ, List, [], Option, None, Some, ap, length, refl, sym, take, append-nil, inl, inr}
use Rattle.std.specs.Io.KnownBytes.{Consumes, IsAtEnd, Keeps}
use Rattle.cam_station.specs.Files.{HasRisenBy}
use Rattle.cam_station.specs.declared.files.FileFault.{FileFault}
use Rattle.cam_refusals.specs.Limits.{file_limit}
use Rattle.camplot.specs.declared.reading.IoFault.{IoFault}
use Rattle.camplot.specs.declared.reading.IoFault.TheVariants.{Failed, TooLong, Memory}
use Rattle.std.specs.IoError.{error_kind}
use Rattle.std.specs.declared.io.Error.{Error}
use Rattle.std.specs.declared.io.ErrorKind.{ErrorKind}
use Rattle.std.specs.declared.io.ErrorKind.TheVariants.{OutOfMemory}
use Rattle.camplot.specs.Disk.{AreAllOf, IsFaultOf, IsHeardOf, IsWhyNotAll, ReaderSeen, TellsOf, fault_heard, reader_seen}
use Rattle.camplot.specs.Endings.{IsWhyNoScript}

-- what was given before a read that gave nothing
kept_given : (told left after : Option (List ℕ)) (bytes : List ℕ) → Consumes told left bytes → Keeps left after → Consumes told after bytes
kept_given None left after bytes given kept = given
kept_given (Some all) None after bytes given kept = absurd given
kept_given (Some all) (Some left) None bytes given kept = absurd kept
kept_given (Some all) (Some left) (Some after) bytes given kept = given ∙ ap (λ xs. bytes ++ xs) (sym kept)

-- a read that failed
pub read_failed : (fault : IoFault) (told left after : Option (List ℕ)) (bytes : List ℕ) (limit first before risen : ℕ)
    → fault ≢ TooLong → before ≡ first → HasRisenBy 1 before risen → length bytes ≤ limit
    → Consumes told left bytes → Keeps left after
    → IsWhyNotAll fault limit (reader_seen told first) (reader_seen after risen)
read_failed (Failed kind) told left after bytes limit first before risen other same rose bound given kept = rw (sym same) rose
read_failed TooLong told left after bytes limit first before risen other same rose bound given kept = absurd (other refl)
read_failed Memory told left after bytes limit first before risen other same rose bound given kept =
    (bytes, kept_given told left after bytes given kept, bound)

-- a read that gave nothing at the end
pub all_read : (told left after : Option (List ℕ)) (bytes piece : List ℕ) (count limit : ℕ) → count ≡ 0 → 0 < length piece
    → length bytes ≤ limit → Consumes told left bytes
    → Consumes left after (take count piece) × (count ≡ 0 → 0 < length piece → IsAtEnd after) → AreAllOf told limit bytes
all_read None left after bytes piece count limit none room bound given read = record { bound = bound; whole = tt }
all_read (Some all) None after bytes piece count limit none room bound given read = absurd given
all_read (Some all) (Some left) None bytes piece count limit none room bound given read = absurd read.0
all_read (Some all) (Some left) (Some after) bytes piece count limit none room bound given read =
    let rest : left ≡ take count piece ++ after = read.0 in
    let end : after ≡ [] = read.1 none room in
    let nothing : left ≡ [] = rest ∙ rw (none, end) refl in
    record { bound = bound; whole = sym (given ∙ ap (λ xs. bytes ++ xs) nothing ∙ append-nil bytes) }

-- what a script is told of it
pub no_script : (fault : IoFault) (old new : ReaderSeen) → IsWhyNotAll fault file_limit old new
    → IsWhyNoScript (fault_heard fault) old new
no_script (Failed kind) old new rose = inl rose
no_script TooLong old new more = inr more
no_script Memory old new within = within

some_kind : (one two : ErrorKind) → Some one ≡ Some two → one ≡ two
some_kind one two same = cc

-- a fault that an error gave tells of it
pub tells_of : (error : Error) (fault : IoFault) (last : Option ErrorKind) → last ≡ Some (error_kind error) → IsFaultOf error fault
    → TellsOf last fault
tells_of error fault last is h =
    record {
      memory = λ memory. h.memory (some_kind _ _ (sym is ∙ memory));
      failed = λ kind same other.
          let kind_is : error_kind error ≡ kind = some_kind _ _ (sym is ∙ same) in
          h.failed (λ memory. other (sym kind_is ∙ memory)) ∙ ap (λ k. Failed k) kind_is;
      none = λ none kind failed. let no : None ≡ Some (error_kind error) = sym none ∙ is in cc;
    }

-- what a line is told of a fault tells of the error that the fault tells of
pub heard_of : (last : Option ErrorKind) (fault : IoFault) → TellsOf last fault → IsHeardOf last (fault_heard fault)
heard_of last fault told =
    record {
      memory = λ memory. ap fault_heard (told.memory memory);
      failed = λ kind same other. ap fault_heard (told.failed kind same other);
    }

-- where no error came, nothing is claimed
pub heard_none : (last : Option ErrorKind) (told : FileFault) → last ≡ None → IsHeardOf last told
heard_none last told none =
    record {
      memory = λ memory. let no : None ≡ Some OutOfMemory = sym none ∙ memory in cc;
      failed = λ kind same other. let no : None ≡ Some kind = sym none ∙ same in cc;
    }

-- and memory may have been refused elsewhere
pub tells_none : (last : Option ErrorKind) (fault : IoFault) → last ≡ None → ((kind : ErrorKind) → fault ≢ Failed kind) → TellsOf last fault
tells_none last fault none own =
    record {
      memory = λ memory. let no : None ≡ Some OutOfMemory = sym none ∙ memory in cc;
      failed = λ kind same other. let no : None ≡ Some kind = sym none ∙ same in cc;
      none = λ is. own;
    }
