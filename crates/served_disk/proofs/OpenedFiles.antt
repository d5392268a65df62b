-- The files of stations that were opened, and why one was not.
use Rattle.std.proofs.Common.{◌≡◌, ℕ, ◌+◌, ◌-◌, ◌<◌, ◌∙◌, ◌∷◌, [], List, Vec, length, get_or, take, refl, ◌++◌, suc, zero, ap, inr, subst, sym, arith}
use Rattle.std.specs.Prelude.{All, Err, Ok, Result, slice_get}
use Rattle.std.specs.Borrow.{Bor}
use Rattle.std.specs.IoError.{error_kind}
use Rattle.std.specs.List.{AllZip, enumerate_from}
use Rattle.std.specs.declared.alloc.Global.{Global}
use Rattle.std.specs.declared.fs.File.{File}
use Rattle.std.specs.declared.io.Error.{Error}
use Rattle.std.specs.declared.io.ErrorKind.{ErrorKind}
use Rattle.std.proofs.lemmas.List.{get_or_default}
use Rattle.std.proofs.lemmas.List.Elements.{All-cons, All-nil}
use Rattle.std.proofs.lemmas.Option.{slice_get-get_or}
use Rattle.served_disk.proofs.Zipped.{numbered_more}
use Rattle.served_disk.specs.declared.fault.Fault.{Fault}
use Rattle.served_disk.specs.declared.watched.WatchedReader.{WatchedReader}
use Rattle.stations.specs.declared.port.Port.{Port}
use Rattle.served_disk.specs.Files.{IsNotRead, IsOfFiles}
use Rattle.served_disk.specs.Pairs.{IsFilePortOf, numbered}

abbrev FilePort : Type 0 → Type 0
FilePort R = Port (WatchedReader File R) (Vec ℕ Global)

abbrev IsOpened : (List ℕ → Result File Error → Type 0) → Bor (List ℕ) → Type 0
IsOpened opened name = (file : File) × opened name.now (Ok file)

module _ {R : Type 0} (opened : List ℕ → Result File Error → Type 0) where
  -- the files of the ports were opened
  each_opened : (k i : ℕ) (names : List (Bor (List ℕ))) (ports : List (FilePort R)) → AllZip (IsFilePortOf opened) (take i (enumerate_from k names)) ports → All (IsOpened opened) (take i names)
  each_opened k zero names ports all = All-nil (IsOpened opened)
  each_opened k (suc i) [] ports all = All-nil (IsOpened opened)
  each_opened k (suc i) (name ∷ names) [] all = absurd all
  each_opened k (suc i) (name ∷ names) (port ∷ ports) all = All-cons (IsOpened opened) name (take i names) (port.reader.reader, all.0.reads) (each_opened (k + 1) i names ports all.1)

  -- the file of the name at this index was not
  pub one_not_opened : (names : List (Bor (List ℕ))) (i : ℕ) (d : Bor (List ℕ)) (ports : List (FilePort R)) (answer : Result File Error) (error : Error) (kind : ErrorKind) (is : Fault)
      → i < length names → AllZip (IsFilePortOf opened) (take i (numbered names)) ports → opened (get_or names i d).now answer → answer ≡ Err error → kind ≡ error_kind error
      → IsNotRead kind (get_or names i d).now is → IsOfFiles opened names is
  one_not_opened names i d ports answer error kind is within all gave failed of not_read =
      let at : i + 1 - 1 ≡ i = omega arith in
      inr (record {
        place = i + 1;
        name = get_or names i d;
        error = error;
        at = ap (λ k. slice_get names k) at ∙ slice_get-get_or names i d within;
        before = subst (λ k. All (IsOpened opened) (take k names)) (sym at) (each_opened 1 i names ports all);
        failed = subst (λ r. opened (get_or names i d).now r) failed gave;
        reported = subst (λ k. IsNotRead k (get_or names i d).now is) of not_read;
      })

  -- one file more was
  pub one_opened : (names : List (Bor (List ℕ))) (i : ℕ) (d : Bor (List ℕ)) (ports new : List (FilePort R)) (port : FilePort R) (answer : Result File Error) (file : File)
      → i < length names → AllZip (IsFilePortOf opened) (take i (numbered names)) ports → opened (get_or names i d).now answer → answer ≡ Ok file → port.reader.reader ≡ file
      → port.reader.station ≡ i + 1 → port.reader.lines ≡ 0 → port.writer.items ≡ [] → new ≡ ports ++ port ∷ []
      → AllZip (IsFilePortOf opened) (take (i + 1) (numbered names)) new
  one_opened names i d ports new port answer file within all gave ok reads number fresh empty added =
      let is : IsFilePortOf opened (i + 1, get_or names i d) port = record {
        reads = subst (λ r. opened (get_or names i d).now r) (ok ∙ ap (λ f. Ok f) (sym reads)) gave;
        number = number;
        new = fresh;
        empty = empty;
      } in
      numbered_more (IsFilePortOf opened) names i (get_or names i d) ports new port within (get_or_default names i d (get_or names i d) within) all is added
