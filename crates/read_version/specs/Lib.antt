pub mod GffVersion
