pub mod HostFacts
